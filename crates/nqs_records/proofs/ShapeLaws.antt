-- Fields one behind the other are read as they are spelled, where each of them is.
use Rattle.std.proofs.Common.{◌≡◌, ℕ, ◌+◌, Bool, true, List, [], ◌∷◌, drop, ap, sym, arith, Ok}
use Rattle.std.specs.Prelude.{⊤}
use Rattle.std.proofs.lemmas.Bool.{and_parts}
use Rattle.nqs_base.proofs.Readings.{given}
use Rattle.nqs_records.specs.Reading.{Reading}
use Rattle.nqs_records.specs.Parts.{nothing_at}
use Rattle.nqs_records.specs.Tables.{Values, AreValues, values_field, values_at, are_sound}
use Rattle.nqs_records.proofs.IsRead.{IsRead}
use Rattle.nqs_records.proofs.Chains.{both_read, last_read}

plus_zero : (n : ℕ) → n ≡ n + 0
plus_zero n = omega arith

nothing : IsRead (λ _. ⊤) (λ _. []) nothing_at
nothing = record {
  found = λ bytes place value next fits e.
      let same : place ≡ next = ap (λ v. v.1) (sym (given (tt, place) (value, next) e)) in
      (tt, record { text = λ j. drop (same j) bytes; behind = omega (arith, same) });
  taken = λ bytes rest place value fits is_value is. λ j. Ok (tt, plus_zero place j);
}

pub same_read : {A : Type 0} {IsA IsB : A → Type 0} {f : A → List ℕ} {r : Reading A} → ((a : A) → IsA a → IsB a) → ((a : A) → IsB a → IsA a)
    → IsRead IsA f r → IsRead IsB f r
same_read {A} {IsA} {IsB} {f} {r} to from one = record {
  found = λ bytes place value next fits e. let here = one.found bytes place value next fits e in (to value here.0, here.1);
  taken = λ bytes rest place value fits is_value is. one.taken bytes rest place value fits (from value is_value) is;
}

-- each value is within its limits, one behind the other
abbrev pub AreNested : {F : Type 0} {ValueOf : F → Type 0} → ((f : F) → ValueOf f → Type 0) → (s : List F) → Values ValueOf s → Type 0
AreNested {F} {ValueOf} Is [] v = ⊤
AreNested {F} {ValueOf} Is (f ∷ []) v = Is f v
AreNested {F} {ValueOf} Is (f ∷ g ∷ fs) v = Is f v.0 × AreNested Is (g ∷ fs) v.1

flat : {F : Type 0} {ValueOf : F → Type 0} (Is : (f : F) → ValueOf f → Type 0) (s : List F) (v : Values ValueOf s) → AreNested Is s v → AreValues Is s v
flat Is [] v is = is
flat Is (f ∷ []) v is = is
flat Is (f ∷ g ∷ []) v is = is
flat Is (f ∷ g ∷ h ∷ []) v is = (is.0, is.1.0, is.1.1)
flat Is (f ∷ g ∷ h ∷ i ∷ []) v is = (is.0, is.1.0, is.1.1.0, is.1.1.1)
flat Is (f ∷ g ∷ h ∷ i ∷ j ∷ fs) v is = (is.0, is.1.0, is.1.1.0, is.1.1.1.0, flat Is (j ∷ fs) v.1.1.1.1 is.1.1.1.1)

pub nested : {F : Type 0} {ValueOf : F → Type 0} (Is : (f : F) → ValueOf f → Type 0) (s : List F) (v : Values ValueOf s) → AreValues Is s v → AreNested Is s v
nested Is [] v is = is
nested Is (f ∷ []) v is = is
nested Is (f ∷ g ∷ []) v is = is
nested Is (f ∷ g ∷ h ∷ []) v is = (is.0, (is.1, is.2))
nested Is (f ∷ g ∷ h ∷ i ∷ []) v is = (is.0, (is.1, (is.2, is.3)))
nested Is (f ∷ g ∷ h ∷ i ∷ j ∷ fs) v is = (is.0, (is.1, (is.2, (is.3, nested Is (j ∷ fs) v.1.1.1.1 is.4))))

-- each field is read as it is spelled, where its limits are sound
abbrev pub FieldsAreRead : {F : Type 0} {ValueOf : F → Type 0} → ((f : F) → ValueOf f → Type 0) → ((f : F) → ValueOf f → List ℕ)
    → ((f : F) → Reading (ValueOf f)) → (F → Bool) → Type 0
FieldsAreRead {F} {ValueOf} Is field read is_sound = (f : F) → is_sound f ≡ true → IsRead (Is f) (field f) (read f)

module _ {F : Type 0} {ValueOf : F → Type 0} (Is : (f : F) → ValueOf f → Type 0) (field : (f : F) → ValueOf f → List ℕ)
    (read : (f : F) → Reading (ValueOf f)) (is_sound : F → Bool) (law : FieldsAreRead Is field read is_sound) where
  nested_law : (s : List F) → are_sound is_sound s ≡ true → IsRead (AreNested Is s) (values_field field s) (values_at read s)
  unfolding values_at
  nested_law [] sound = nothing
  nested_law (f ∷ []) sound = last_read (law f (and_parts (is_sound f) true sound).0)
  nested_law (f ∷ g ∷ fs) sound =
      let p = and_parts (is_sound f) (are_sound is_sound (g ∷ fs)) sound in
      both_read (law f p.0) (λ _ _. nested_law (g ∷ fs) p.1)

  pub shape_law : (s : List F) → are_sound is_sound s ≡ true → IsRead (AreValues Is s) (values_field field s) (values_at read s)
  shape_law s sound = same_read (flat Is s) (nested Is s) (nested_law s sound)
