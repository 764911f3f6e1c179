-- Names and paths are read the same whatever follows.
use Rattle.std.proofs.Common.{◌≡◌, ℕ, zero, suc, ◌+◌, ◌<◌, ◌≤◌, Bool, true, false, cond, ◌&&◌, nat_lt, nat_le, List, [], ◌∷◌, ◌++◌, length, drop, take, Option}
use Rattle.std.proofs.Common.{Some, None, option_map, refl, sym, ap, ◌∙◌, subst, arith, length-append, Result, Ok, Err}
use Rattle.std.proofs.lemmas.Bool.{ltb-false}
use Rattle.std.proofs.lemmas.List.{length-drop, take-append-le}
use Rattle.nqs_base.specs.Name.{allowed_at}
use Rattle.nqs_base.specs.Path.{path_allowed_at, has_parent}
use Rattle.nqs_codec.specs.declared.fault.FieldFault.{FieldFault}
use Rattle.nqs_codec.specs.declared.fault.FieldFault.TheVariants as field
use Rattle.nqs_records.specs.declared.fault.RecordFault.TheVariants.{BadField}
use Rattle.nqs_records.specs.Reading.{◌>>=◌}
use Rattle.nqs_records.specs.Fields.{or_fault, short_of, first_bad, named, pathed, name_of, path_of, name_at, path_at}
use Rattle.nqs_records.proofs.Steady.{Stays, IsSteady}
use Rattle.nqs_records.proofs.SteadyFields.{some_behind, behind, same_test}

-- the same of what is wrong with a field
abbrev StaysField : {A : Type 0} → List ℕ → Result A FieldFault → Result A FieldFault → Type 0
StaysField {A} bytes r s = Stays bytes (or_fault r) (or_fault s)

-- the value's bytes stand behind the place
abbrev IsWithin : List ℕ → ℕ → List ℕ → Type 0
IsWithin bytes place value = place + length value < length bytes

after : {B : Type 0} (bytes : List ℕ) (r s : Result (List ℕ) FieldFault) (f : List ℕ → Result B FieldFault)
    → StaysField bytes r s → ((a : List ℕ) → r ≡ Ok a → StaysField bytes (f a) (f a)) → StaysField bytes (r >>= f) (s >>= f)
after bytes (Ok a) (Ok b) f one other = subst (λ (x : List ℕ). StaysField bytes (f a) (f x)) (let e : a ≡ b = cc in e) (other a refl)
after bytes (Ok a) (Err (field.Short end)) f one other = absurd (let no : ⊥ = cc in no)
after bytes (Ok a) (Err (field.Bad at)) f one other = absurd (let no : ⊥ = cc in no)
after bytes (Err (field.Short end)) s f one other = one
after bytes (Err (field.Bad at)) (Ok b) f one other = absurd (let e = one.1 in let no : ⊥ = cc in no)
after bytes (Err (field.Bad at)) (Err (field.Short end)) f one other = absurd (let e = one.1 in let no : ⊥ = cc in no)
after bytes (Err (field.Bad at)) (Err (field.Bad b)) f one other =
    (one.0, let e = one.1 in let same : b ≡ at = cc in ap (λ (n : ℕ). Err (BadField n)) same)

length_taken : (n : ℕ) (l : List ℕ) → length (take n l) ≤ length l
length_taken zero l = omega arith
length_taken (suc n) [] = omega arith
length_taken (suc n) (b ∷ bs) = omega (arith, length_taken n bs)

short_steady : (most : ℕ) (bytes more : List ℕ) (place : ℕ)
    → StaysField bytes (short_of most (length bytes) place (drop place bytes)) (short_of most (length (bytes ++ more)) place (drop place (bytes ++ more)))
unfolding short_of
short_steady most bytes more place = by (drop place bytes) refl
  where
    told : (count : ℕ) (rest : List ℕ) → place < length bytes → (good short : Bool) → nat_lt (length rest) count ≡ short
        → StaysField bytes (cond good (cond short (Err (field.Short (length bytes))) (Ok (take count rest))) (Err (field.Bad place)))
        (cond good (cond (nat_lt (length (rest ++ more)) count) (Err (field.Short (length (bytes ++ more)))) (Ok (take count (rest ++ more))))
        (Err (field.Bad place)))
    told count rest some false short is = (some, refl)
    told count rest some true true is = refl
    told count rest some true false is =
        let enough = ltb-false (length rest) count is in
        let test = ap (λ (n : ℕ). nat_lt n count) (length-append rest more) ∙ same_test (length rest) (length more) count is in
        ap (λ (t : Bool). or_fault (cond t (Err (field.Short (length (bytes ++ more)))) (Ok (take count (rest ++ more))))) test
        ∙ ap (λ (l : List ℕ). Ok l) (take-append-le count rest more enough)

    by : (l : List ℕ) → drop place bytes ≡ l
        → StaysField bytes (short_of most (length bytes) place l) (short_of most (length (bytes ++ more)) place (drop place (bytes ++ more)))
    by [] is = refl
    by (count ∷ rest) is =
        subst (λ (l : List ℕ). StaysField bytes (short_of most (length bytes) place (count ∷ rest)) (short_of most (length (bytes ++ more)) place l))
        (sym (behind bytes more place count rest is))
        (told count rest (some_behind bytes place count rest is) (nat_le 1 count && nat_le count most) (nat_lt (length rest) count) refl)

short_within : (most : ℕ) (bytes : List ℕ) (place : ℕ) (value : List ℕ)
    → short_of most (length bytes) place (drop place bytes) ≡ Ok value → IsWithin bytes place value
unfolding short_of
short_within most bytes place value e = by (drop place bytes) refl e
  where
    told : (count : ℕ) (rest : List ℕ) → drop place bytes ≡ count ∷ rest → (good short : Bool)
        → ◌≡◌ {A = Result (List ℕ) FieldFault} (cond good (cond short (Err (field.Short (length bytes))) (Ok (take count rest))) (Err (field.Bad place)))
        (Ok value)
        → IsWithin bytes place value
    told count rest is false short f = absurd (let no : ⊥ = cc in no)
    told count rest is true true f = absurd (let no : ⊥ = cc in no)
    told count rest is true false f =
        let same : take count rest ≡ value = cc in
        omega (arith, length-drop place bytes, ap length is, length_taken count rest, ap length same)

    by : (l : List ℕ) → drop place bytes ≡ l → short_of most (length bytes) place l ≡ Ok value → IsWithin bytes place value
    by [] is f = absurd (let no : ⊥ = cc in no)
    by (count ∷ rest) is f = told count rest is (nat_le 1 count && nat_le count most) (nat_lt (length rest) count) f

none_there : (k : ℕ) → ◌≡◌ {A = Option ℕ} None (Some k) → ⊥
none_there k e = cc

-- a bad byte is one of the value's
bad_within : (allowed : ℕ → ℕ → Bool) (l : List ℕ) (k : ℕ) → first_bad allowed l ≡ Some k → k < length l
unfolding first_bad
bad_within allowed [] k e = absurd (let no : ⊥ = cc in no)
bad_within allowed (b ∷ bs) k e = by (allowed 0 b) (first_bad (λ i. allowed (suc i)) bs) (bad_within (λ i. allowed (suc i)) bs) e
  where
    by : (t : Bool) (found : Option ℕ) → ((j : ℕ) → found ≡ Some j → j < length bs)
        → cond t (option_map (λ i. suc i) found) (Some 0) ≡ Some k → k < length (b ∷ bs)
    by false found less f = let same : 0 ≡ k = cc in omega (arith, same)
    by true None less f = absurd (none_there k f)
    by true (Some j) less f = let same : suc j ≡ k = cc in omega (arith, same, less j refl)

named_steady : (bytes : List ℕ) (place : ℕ) (value : List ℕ) → IsWithin bytes place value → (bad : Option ℕ) → ((k : ℕ) → bad ≡ Some k → k < length value)
    → StaysField bytes (named place value bad) (named place value bad)
named_steady bytes place value stands None less = refl
named_steady bytes place value stands (Some k) less = (omega (arith, stands, less k refl), refl)

pub name_steady : IsSteady name_at
unfolding name_at name_of
name_steady bytes more place =
    after bytes (short_of 15 (length bytes) place (drop place bytes)) (short_of 15 (length (bytes ++ more)) place (drop place (bytes ++ more)))
    (λ value. named place value (first_bad allowed_at value)) (short_steady 15 bytes more place)
    (λ value is. named_steady bytes place value (short_within 15 bytes place value is) (first_bad allowed_at value) (bad_within allowed_at value))

pathed_steady : (bytes : List ℕ) (place : ℕ) (value : List ℕ) → IsWithin bytes place value → (bad : Option ℕ) → ((k : ℕ) → bad ≡ Some k → k < length value)
    → StaysField bytes (pathed place value bad) (pathed place value bad)
pathed_steady bytes place value stands None less = told (has_parent value)
  where
    told : (t : Bool) → StaysField bytes (cond t (Err (field.Bad place)) (named place value None)) (cond t (Err (field.Bad place)) (named place value None))
    told true = (omega (arith, stands), refl)
    told false = refl
pathed_steady bytes place value stands (Some k) less = (omega (arith, stands, less k refl), refl)

pub path_steady : IsSteady path_at
unfolding path_at path_of
path_steady bytes more place =
    after bytes (short_of 255 (length bytes) place (drop place bytes)) (short_of 255 (length (bytes ++ more)) place (drop place (bytes ++ more)))
    (λ value. pathed place value (first_bad path_allowed_at value)) (short_steady 255 bytes more place)
    (λ value is. pathed_steady bytes place value (short_within 255 bytes place value is) (first_bad path_allowed_at value) (bad_within path_allowed_at value))
