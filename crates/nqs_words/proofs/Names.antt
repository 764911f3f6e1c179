use Rattle.std.proofs.Common.{◌≡◌, ℕ, zero, suc, ◌<◌, ◌≤◌, List, [], ◌∷◌, length, arith, refl, ap, Some, None, Ok, Err, cond, Bool, true, false, get_or, IsTrue}
use Rattle.std.proofs.Common.{nat_le}
use Rattle.std.proofs.lemmas.Bool.{and_parts, and_from}
use Rattle.std.proofs.lemmas.List.Sums.{AllPass-from_list_all}
use Rattle.std.specs.List.{list_all}
use Rattle.std.proofs.lemmas.Bool.Decides.{nat_tests}
use Rattle.nqs_base.specs.Name.{IsName, AllowedBelow, is_letter}
use Rattle.nqs_base.specs.NameRead.{ReadsName}
use Rattle.nqs_base.specs.declared.name.NameFault.{NameFault}
use Rattle.nqs_base.specs.declared.name.NameFault.TheVariants.{Empty, Long, BadByte}
use Rattle.nqs_words.specs.Values.{is_name, is_name_byte, begins_as_name, name_of}

passes : (bs : List ℕ) → ((i : ℕ) → i < length bs → IsTrue (is_name_byte (get_or bs i 0))) → list_all is_name_byte bs ≡ true
passes [] h = refl
passes (b ∷ bs) h = and_from _ _ (h 0 (omega arith)) (passes bs (λ i less. h (suc i) (omega arith)))

few_enough : (n : ℕ) → n ≤ 15 → nat_le n 15 ≡ true
few_enough n h = grind (arith, nat_tests)

few : (n : ℕ) → nat_le n 15 ≡ true → n ≤ 15
few n h = grind (arith, nat_tests)

pub name_passes : (bytes : List ℕ) → IsName bytes → is_name bytes ≡ true
unfolding is_name
name_passes [] h = absurd (omega (arith, h.some))
name_passes (b ∷ bs) h =
    and_from _ _ (and_from _ _ (h.allowed 0 (omega arith)) (passes bs (λ i less. h.allowed (suc i) (omega arith)))) (few_enough (length (b ∷ bs)) h.few)

at : (p : ℕ → Bool) (bs : List ℕ) → list_all p bs ≡ true → (i : ℕ) → i < length bs → IsTrue (p (get_or bs i 0))
at p bs h i less = AllPass-from_list_all p bs h i 0 less

allowed : (b : ℕ) (bs : List ℕ) → begins_as_name (b ∷ bs) ≡ true → AllowedBelow (b ∷ bs) (length (b ∷ bs))
allowed b bs h zero less = (and_parts _ _ h).0
allowed b bs h (suc i) less = at is_name_byte bs (and_parts (is_letter b) (list_all is_name_byte bs) h).1 i (omega arith)

pub passing_name : (bytes : List ℕ) → is_name bytes ≡ true → IsName bytes
unfolding is_name
passing_name [] h = cc
passing_name (b ∷ bs) h =
    let p = and_parts (begins_as_name (b ∷ bs)) (nat_le (length (b ∷ bs)) 15) h in
    record { some = omega arith; few = few (length (b ∷ bs)) p.1; allowed = allowed b bs p.0 }

no_reading : (bytes : List ℕ) (e : NameFault) → ReadsName bytes (Err e) → IsName bytes → ⊥
no_reading bytes Empty r h = let none : length bytes ≡ 0 = ap length r in omega (arith, h.some, none)
no_reading bytes Long r h = omega (arith, h.few, r)
no_reading bytes (BadByte place) r h = let good = h.allowed place r.1.inside in let bad = r.1.bad in cc

pub name_of-Ok : (bytes name : List ℕ) → ReadsName bytes (Ok name) → Some name ≡ name_of bytes
unfolding name_of
name_of-Ok bytes name r = rw (name_passes bytes r.1) (ap (λ (n : List ℕ). Some n) r.0)

pub name_of-Err : (bytes : List ℕ) (e : NameFault) → ReadsName bytes (Err e) → None ≡ name_of bytes
unfolding name_of
name_of-Err bytes e r = by (is_name bytes) refl
  where
    by : (t : Bool) → is_name bytes ≡ t → None ≡ cond t (Some bytes) None
    by true is = absurd (no_reading bytes e r (passing_name bytes is))
    by false is = refl
