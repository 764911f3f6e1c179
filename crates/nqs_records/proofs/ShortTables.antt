-- What a table spells is short, where its fields are: a bound that follows from the rows' fields.
use Rattle.std.proofs.Common.{◌≡◌, ℕ, ◌+◌, ◌≤◌, Bool, true, nat_le, List, [], ◌∷◌, length, length-append, sym, subst, arith}
use Rattle.std.specs.List.{AllByRecursion}
use Rattle.std.proofs.lemmas.Bool.{leb-true}
use Rattle.nqs_codec.specs.Fields.{u8_field}
use Rattle.nqs_records.specs.Reading.{Reading}
use Rattle.nqs_records.specs.Tables.{Values, values_field, Row, Entry, IsEntry, entry_field}
use Rattle.nqs_records.proofs.ShapeLaws.{AreNested, nested}
use Rattle.nqs_records.proofs.Tables.{IsTable, each_shape}
use Rattle.nqs_records.proofs.ShortFields.{length-u8}

-- how long fields are at most, one behind the other
abbrev pub most_of : {F : Type 0} → (F → ℕ) → List F → ℕ
most_of {F} most [] = 0
most_of {F} most (f ∷ fs) = most f + most_of most fs

-- each value is spelled in as many bytes as its field takes at most
abbrev pub FieldsAreShort : {F : Type 0} {ValueOf : F → Type 0} → ((f : F) → ValueOf f → Type 0) → ((f : F) → ValueOf f → List ℕ) → (F → ℕ) → Type 0
FieldsAreShort {F} {ValueOf} Is field most = (f : F) (v : ValueOf f) → Is f v → length (field f v) ≤ most f

-- the fields of a row take so many bytes at most
abbrev pub IsShort : {F : Type 0} {ValueOf : F → Type 0} {A : Type 0} → (F → ℕ) → ℕ → Row ValueOf A → Type 0
IsShort {F} {ValueOf} {A} most limit r = nat_le (most_of most r.shape) limit ≡ true

module _ {F : Type 0} {ValueOf : F → Type 0} (Is : (f : F) → ValueOf f → Type 0) (field : (f : F) → ValueOf f → List ℕ) (most : F → ℕ)
    (law : FieldsAreShort Is field most) where
  values_short : (s : List F) (v : Values ValueOf s) → AreNested Is s v → length (values_field field s v) ≤ most_of most s
  values_short [] v is = omega arith
  values_short (f ∷ []) v is = omega (arith, length-append (field f v) [], law f v is)
  values_short (f ∷ g ∷ fs) v is =
      omega (arith, length-append (field f v.0) (values_field field (g ∷ fs) v.1), law f v.0 is.0, values_short (g ∷ fs) v.1 is.1)

  -- an entry is its code's byte, and fields of some row
  pub entry_short : {A : Type 0} {read : (f : F) → Reading (ValueOf f)} {is_sound : F → Bool} {entry_of : A → Entry ValueOf} (rows : List (Row ValueOf A))
      → IsTable read is_sound entry_of rows → (limit : ℕ) → AllByRecursion (IsShort most limit) rows → (a : A) → IsEntry Is (entry_of a)
      → length (entry_field field (entry_of a)) ≤ 1 + limit
  entry_short {entry_of = entry_of} rows table limit all a is =
      let n = entry_of a in
      let few = subst (λ s. most_of most s ≤ limit) (sym (table.all_made a).1)
      (each_shape (λ s. most_of most s ≤ limit) (IsShort most limit) (omega arith) (λ r short. leb-true (most_of most r.shape) limit short) rows n.code all) in
      let back = values_field field n.shape n.values in
      omega (arith, length-append (u8_field n.code) back, length-u8 n.code, values_short n.shape n.values (nested Is n.shape n.values is), few)
