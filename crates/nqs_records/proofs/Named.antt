-- Yes and no, names and paths: what is read at a place is what is taken from there.
use Rattle.std.proofs.Common.{◌≡◌, ℕ, zero, suc, ◌+◌, ◌<◌, ◌≤◌, ◌⊎◌, inl, inr, Bool, true, false, cond, ◌&&◌, ◌==◌, nat_lt, nat_le, IsTrue, List, [], ◌∷◌}
use Rattle.std.proofs.Common.{length, take, drop, slice_index, Option, Some, None, option_map, refl, sym, ap, ◌∙◌, subst, arith, Result, Ok, Err}
use Rattle.std.specs.Prelude.{⊤}
use Rattle.std.proofs.lemmas.Bool.{eqb-true, ltb-true, ltb-false}
use Rattle.std.proofs.lemmas.Bool.Decides.{nat_tests}
use Rattle.nqs_base.specs.Extents.{extent_bytes}
use Rattle.nqs_base.specs.Name.{IsName, allowed_at}
use Rattle.nqs_base.specs.Path.{IsPath, path_allowed_at, has_parent}
use Rattle.nqs_codec.specs.Fields.{u8_field, short_field, bool_field}
use Rattle.nqs_codec.specs.Takes.{Stands, TakesBool, TakesName, TakesPath, IsOther, IsCutShort, IsBadLength, IsShortAt}
use Rattle.nqs_codec.specs.Laws.{IsReadBack}
use Rattle.nqs_codec.specs.declared.fault.FieldFault.{FieldFault}
use Rattle.nqs_codec.specs.declared.fault.FieldFault.TheVariants.{Short, Bad}
use Rattle.nqs_base.specs.declared.extent.Extent.{Extent}
use Rattle.nqs_base.proofs.Plain.{rest_behind}
use Rattle.nqs_codec.proofs.Shorts.{short_stands}
use Rattle.nqs_codec.proofs.One.{one_short}
use Rattle.nqs_codec.proofs.Refusals.{refused_path}
use Rattle.nqs_codec.proofs.Faults.{path_fault}
use Rattle.nqs_codec.proofs.ReadBack.{bool_back, name_back, read_back}
use Rattle.nqs_records.specs.Reading.{◌>>=◌}
use Rattle.nqs_records.specs.Fields.{bool_of, bool_at, short_of, first_bad, named, pathed, name_of, path_of, name_at, path_at, or_fault, as_fault}
use Rattle.nqs_records.proofs.IsRead.{IsRead, fault_read, fault_same}

behind : (bytes : List ℕ) (place b : ℕ) (rest : List ℕ) → drop place bytes ≡ b ∷ rest → rest ≡ drop (place + 1) bytes
behind bytes place b rest is = sym (rest_behind bytes place (b ∷ []) rest is)

-- ---- yes and no

neither : (b : ℕ) → (b == 0) ≡ false → (b == 1) ≡ false → 1 < b
neither b zero_is one_is = grind (arith, nat_tests)

takes_bool : (bytes : List ℕ) (place : ℕ) → TakesBool bytes place (bool_of (length bytes) place (drop place bytes))
unfolding bool_of bool_field
takes_bool bytes place = by (drop place bytes) refl
  where
    told : (b : ℕ) (rest : List ℕ) → drop place bytes ≡ b ∷ rest → (zero_it one_it : Bool) → (b == 0) ≡ zero_it → (b == 1) ≡ one_it
        → TakesBool bytes place (cond zero_it (Ok (false, place + 1)) (cond one_it (Ok (true, place + 1)) (Err (Bad place))))
    told b rest is true one_it zero_is one_is = record { text = is ∙ (λ j. eqb-true b 0 zero_is j ∷ behind bytes place b rest is j); behind = refl }
    told b rest is false true zero_is one_is = record { text = is ∙ (λ j. eqb-true b 1 one_is j ∷ behind bytes place b rest is j); behind = refl }
    told b rest is false false zero_is one_is = (refl, subst IsOther (sym is) (neither b zero_is one_is))

    by : (l : List ℕ) → drop place bytes ≡ l → TakesBool bytes place (bool_of (length bytes) place l)
    by [] is = (refl, is)
    by (b ∷ rest) is = told b rest is (b == 0) (b == 1) refl refl

pub bool_read : IsRead (λ _. ⊤) bool_field bool_at
unfolding bool_at
bool_read = fault_read bool_back (λ bytes place. bool_of (length bytes) place (drop place bytes)) takes_bool (λ bytes place value next took. (tt, took))

pub bool_same : (bytes : List ℕ) (place : ℕ) (answer : Result (Bool × ℕ) FieldFault) → TakesBool bytes place answer → or_fault answer ≡ bool_at bytes place
unfolding bool_at
bool_same = fault_same bool_back (λ bytes place. bool_of (length bytes) place (drop place bytes)) takes_bool (λ bytes place value next took. (tt, took))

-- ---- the first byte that is not allowed

step_none : (t : Bool) (o : Option ℕ) → cond t (option_map (λ i. suc i) o) (Some 0) ≡ None → (t ≡ true) × (o ≡ None)
step_none true None e = (refl, refl)
step_none true (Some k) e = cc
step_none false o e = cc

step_some : (t : Bool) (o : Option ℕ) (k : ℕ) → cond t (option_map (λ i. suc i) o) (Some 0) ≡ Some k
    → ((t ≡ false) × (k ≡ 0)) ⊎ ((j : ℕ) × (t ≡ true) × (o ≡ Some j) × (k ≡ suc j))
step_some true None k e = cc
step_some true (Some j) k e = inr (j, refl, refl, cc)
step_some false o k e = inl (refl, cc)

pub all_allowed : (allowed : ℕ → ℕ → Bool) (l : List ℕ) → first_bad allowed l ≡ None → (i : ℕ) → i < length l → IsTrue (allowed i (slice_index l i))
unfolding first_bad
all_allowed allowed [] e i less = absurd (omega (arith, less))
all_allowed allowed (b ∷ bs) e zero less = (step_none (allowed 0 b) (first_bad (λ i. allowed (suc i)) bs) e).0
all_allowed allowed (b ∷ bs) e (suc i) less = all_allowed (λ i. allowed (suc i)) bs (step_none (allowed 0 b) (first_bad (λ i. allowed (suc i)) bs) e).1 i
    (omega (arith, less))

abbrev FirstBad : (ℕ → ℕ → Bool) → List ℕ → ℕ → Type 0
FirstBad allowed l k = (k < length l) × ((i : ℕ) → i < k → IsTrue (allowed i (slice_index l i))) × (allowed k (slice_index l k) ≡ false)

later_bad : (allowed : ℕ → ℕ → Bool) (b : ℕ) (bs : List ℕ) (j : ℕ) → allowed 0 b ≡ true → FirstBad (λ i. allowed (suc i)) bs j
    → FirstBad allowed (b ∷ bs) (suc j)
later_bad allowed b bs j first f = (omega (arith, f.0), before, f.2)
  where
    before : (i : ℕ) → i < suc j → IsTrue (allowed i (slice_index (b ∷ bs) i))
    before zero less = first
    before (suc i) less = f.1 i (omega (arith, less))

is_first_bad : (allowed : ℕ → ℕ → Bool) (l : List ℕ) (k : ℕ) → first_bad allowed l ≡ Some k → FirstBad allowed l k
unfolding first_bad
is_first_bad allowed [] k e = cc
is_first_bad allowed (b ∷ bs) k e = by (λ j is. is_first_bad (λ i. allowed (suc i)) bs j is) (step_some (allowed 0 b) (first_bad (λ i. allowed (suc i)) bs) k e)
  where
    by : ((j : ℕ) → first_bad (λ i. allowed (suc i)) bs ≡ Some j → FirstBad (λ i. allowed (suc i)) bs j)
        → ((allowed 0 b ≡ false) × (k ≡ 0)) ⊎ ((j : ℕ) × (allowed 0 b ≡ true) × (first_bad (λ i. allowed (suc i)) bs ≡ Some j) × (k ≡ suc j))
        → FirstBad allowed (b ∷ bs) k
    by later (inl (bad, is)) = subst (FirstBad allowed (b ∷ bs)) (sym is) (omega arith, (λ i less. absurd (omega (arith, less))), bad)
    by later (inr (j, first, is, next)) = subst (FirstBad allowed (b ∷ bs)) (sym next) (later_bad allowed b bs j first (later j is))

-- ---- the bytes behind a byte of length

abbrev ShortAnswer : ℕ → List ℕ → ℕ → Result (List ℕ) FieldFault → Type 0
ShortAnswer most bytes place (Ok value) = IsShortAt most bytes place value
ShortAnswer most bytes place (Err (Short end)) = (end ≡ length bytes) × IsCutShort most (drop place bytes)
ShortAnswer most bytes place (Err (Bad at)) = (at ≡ place) × IsBadLength most (drop place bytes)

bad_count : (count most : ℕ) → (nat_le 1 count && nat_le count most) ≡ false → (count ≡ 0) ⊎ (most < count)
bad_count zero most is = inl refl
bad_count (suc count) most is = inr (grind (arith, nat_tests))

good_count : (count most : ℕ) → (nat_le 1 count && nat_le count most) ≡ true → (0 < count) × (count ≤ most)
good_count zero most is = cc
good_count (suc count) most is = (omega arith, grind (arith, nat_tests))

short_answer : (most : ℕ) (bytes : List ℕ) (place : ℕ) → ShortAnswer most bytes place (short_of most (length bytes) place (drop place bytes))
unfolding short_of u8_field
short_answer most bytes place = by (drop place bytes) refl
  where
    there : (count : ℕ) (rest : List ℕ) → drop place bytes ≡ count ∷ rest → 0 < count → count ≤ most → count ≤ length rest
        → IsShortAt most bytes place (take count rest)
    there count rest is some few long =
        let next = behind bytes place count rest is in
        short_stands most bytes place count (place + 1) (take count rest) (record { text = is ∙ ap (λ (l : List ℕ). count ∷ l) next; behind = refl })
        (ap (take count) next) (subst (λ (l : List ℕ). count ≤ length l) next long) some few

    told : (count : ℕ) (rest : List ℕ) → drop place bytes ≡ count ∷ rest → (good short : Bool) → (nat_le 1 count && nat_le count most) ≡ good
        → nat_lt (length rest) count ≡ short
        → ShortAnswer most bytes place (cond good (cond short (Err (Short (length bytes))) (Ok (take count rest))) (Err (Bad place)))
    told count rest is false short is_bad is_short = (refl, subst (IsBadLength most) (sym is) (bad_count count most is_bad))
    told count rest is true true is_good is_short =
        let g = good_count count most is_good in
        (refl, subst (IsCutShort most) (sym is) (g.0, g.1, ltb-true (length rest) count is_short))
    told count rest is true false is_good is_long =
        let g = good_count count most is_good in
        there count rest is g.0 g.1 (ltb-false (length rest) count is_long)

    by : (l : List ℕ) → drop place bytes ≡ l → ShortAnswer most bytes place (short_of most (length bytes) place l)
    by [] is = (refl, subst (IsCutShort most) (sym is) tt)
    by (count ∷ rest) is = told count rest is (nat_le 1 count && nat_le count most) (nat_lt (length rest) count) refl refl

-- ---- names

takes_name : (bytes : List ℕ) (place : ℕ) → TakesName bytes place (name_of bytes place)
unfolding name_of
takes_name bytes place = by (short_of 15 (length bytes) place (drop place bytes)) (short_answer 15 bytes place)
  where
    told : (value : List ℕ) → IsShortAt 15 bytes place value → (bad : Option ℕ) → first_bad allowed_at value ≡ bad
        → TakesName bytes place (named place value bad)
    told value there None is = (record { some = there.some; few = there.few; allowed = all_allowed allowed_at value is }, there.stands)
    told value there (Some k) is =
        let f = is_first_bad allowed_at value k is in
        inr (record { value = value; is_there = there; offset = k; first = record { inside = f.0; before = f.1; bad = f.2 }; is_place = refl })

    by : (r : Result (List ℕ) FieldFault) → ShortAnswer 15 bytes place r → TakesName bytes place
        (r >>= (λ value. named place value (first_bad allowed_at value)))
    by (Ok value) there = told value there (first_bad allowed_at value) refl
    by (Err (Short end)) fault = fault
    by (Err (Bad at)) fault = inl fault

pub name_read : IsRead IsName short_field name_at
unfolding name_at
name_read = fault_read name_back name_of takes_name (λ bytes place value next took. took)

pub name_same : (bytes : List ℕ) (place : ℕ) (answer : Result (List ℕ × ℕ) FieldFault) → TakesName bytes place answer → or_fault answer ≡ name_at bytes place
unfolding name_at
name_same = fault_same name_back name_of takes_name (λ bytes place value next took. took)

-- ---- paths, as their bytes

abbrev TakesBytesOf : List ℕ → ℕ → Result (List ℕ × ℕ) FieldFault → Type 0
TakesBytesOf bytes place (Ok (value, next)) = IsPath value × Stands bytes place (short_field value) next
TakesBytesOf bytes place (Err fault) = TakesPath bytes place (Err fault)

takes_path : (bytes : List ℕ) (place : ℕ) → TakesBytesOf bytes place (path_of bytes place)
unfolding path_of
takes_path bytes place = by (short_of 255 (length bytes) place (drop place bytes)) (short_answer 255 bytes place)
  where
    below_it : (value : List ℕ) → IsShortAt 255 bytes place value → first_bad path_allowed_at value ≡ None → (parent : Bool) → has_parent value ≡ parent
        → TakesBytesOf bytes place (cond parent (Err (Bad place)) (Ok (value, place + 1 + length value)))
    below_it value there none true is = inr (inr (record {
      value = value;
      is_there = there;
      allowed = all_allowed path_allowed_at value none;
      parent =
          is;
      is_place = refl;
    }))
    below_it value there none false is = (
      record {
        some = there.some;
        few = there.few;
        allowed = all_allowed path_allowed_at value none;
        below =
            is;
      },
      there.stands,
    )

    told : (value : List ℕ) → IsShortAt 255 bytes place value → (bad : Option ℕ) → first_bad path_allowed_at value ≡ bad
        → TakesBytesOf bytes place (pathed place value bad)
    told value there None is = below_it value there is (has_parent value) refl
    told value there (Some k) is =
        let f = is_first_bad path_allowed_at value k is in
        inr (inl (record { value = value; is_there = there; offset = k; first = record { inside = f.0; before = f.1; bad = f.2 }; is_place = refl }))

    by : (r : Result (List ℕ) FieldFault) → ShortAnswer 255 bytes place r
        → TakesBytesOf bytes place (r >>= (λ value. pathed place value (first_bad path_allowed_at value)))
    by (Ok value) there = told value there (first_bad path_allowed_at value) refl
    by (Err (Short end)) fault = fault
    by (Err (Bad at)) fault = inl fault

path_back : IsReadBack IsPath short_field TakesBytesOf
path_back = read_back IsPath short_field TakesBytesOf (λ bytes place value next took. took) refused_path (λ p q x y _ _. one_short p q x y) path_fault

pub path_read : IsRead IsPath short_field path_at
unfolding path_at
path_read = fault_read path_back path_of takes_path (λ bytes place value next took. took)

path_same : (bytes : List ℕ) (place : ℕ) (answer : Result (List ℕ × ℕ) FieldFault) → TakesBytesOf bytes place answer → or_fault answer ≡ path_at bytes place
unfolding path_at
path_same = fault_same path_back path_of takes_path (λ bytes place value next took. took)

pub path_taken : (bytes : List ℕ) (place : ℕ) (extent : Extent) (next : ℕ) → TakesPath bytes place (Ok (extent, next))
    → Ok (extent_bytes bytes extent, next) ≡ path_at bytes place
path_taken bytes place extent next took = path_same bytes place (Ok (extent_bytes bytes extent, next)) (took.0, took.1)

pub path_refused : (bytes : List ℕ) (place : ℕ) (fault : FieldFault) → TakesPath bytes place (Err fault) → Err (as_fault fault) ≡ path_at bytes place
path_refused bytes place fault took = path_same bytes place (Err fault) took
