-- Counters: what a change or a gain of one leaves of the counts.
use Rattle.std.proofs.Common.{◌≡◌, ℕ, ◌+◌, ◌-◌, Bool, true, false, List, [], ◌∷◌, ◌++◌, find, Option, None, Some, is_some, option_map, refl, sym, ap, ◌∙◌}
use Rattle.std.proofs.Common.{arith, if◌then◌else◌, true≢false}
use Rattle.std.specs.Prelude.{cond}
use Rattle.std.specs.List.{list_any}
use Rattle.nqs_base_tables.specs.Table.{change_first}
use Rattle.nqs_base_tables.proofs.TableLemmas.{is_some-find}
use Rattle.nqs_base_tables.proofs.KeyLemmas.{found_changed, found_other, found_behind, found_before}
use Rattle.nqs_index.specs.declared.tally.Tally.{Tally}
use Rattle.nqs_index.specs.declared.tally.Counter.{Counter}
use Rattle.nqs_index.specs.Tallies.{tally_eq, tally_exact, tally_equiv, is_counter, with_count, with_less, counted, count_of, one, CanAdd, Adds}

-- another tally counts as before
other : (g : Counter → Counter) → ((c : Counter) → (g c).tally ≡ c.tally) → (k tally : Tally) (cs : List Counter) → tally_eq k tally ≡ false
    → count_of k (change_first (is_counter tally) g cs) ≡ count_of k cs
other g keeps k tally cs e = ap counted (found_other tally_eq (λ (c : Counter). c.tally) tally_exact g keeps k tally cs e)

counted_is : (n : ℕ) (o : Option Counter) → is_some o ≡ true → counted (option_map (with_count n) o) ≡ n
counted_is n None h = absurd (true≢false (sym h))
counted_is n (Some c) h = refl

counted_less : (o : Option Counter) → counted (option_map with_less o) ≡ counted o - 1
counted_less None = omega arith
counted_less (Some c) = refl

-- a counter that is there gets another count
pub count_changed : (n : ℕ) (k tally : Tally) (cs : List Counter) → list_any (is_counter tally) cs ≡ true
    → count_of k (change_first (is_counter tally) (with_count n) cs) ≡ (if tally_eq k tally then n else count_of k cs)
count_changed n k tally cs there = by (tally_eq k tally) refl
  where
    by : (b : Bool) → tally_eq k tally ≡ b → count_of k (change_first (is_counter tally) (with_count n) cs) ≡ (if b then n else count_of k cs)
    by true e =
        ap (λ k. count_of k (change_first (is_counter tally) (with_count n) cs)) (tally_exact k tally e)
        ∙ ap counted (found_changed (is_counter tally) (with_count n) (λ c. refl) cs)
        ∙ counted_is n (find (is_counter tally) cs) (is_some-find (is_counter tally) cs ∙ there)
    by false e = other (with_count n) (λ c. refl) k tally cs e

-- one that is new
pub count_added : (n : ℕ) (k tally : Tally) (cs : List Counter) → list_any (is_counter tally) cs ≡ false
    → count_of k (cs ++ record { tally = tally; count = n } ∷ []) ≡ (if tally_eq k tally then n else count_of k cs)
count_added n k tally cs none = by (tally_eq k tally) refl
  where
    by : (b : Bool) → tally_eq k tally ≡ b → count_of k (cs ++ record { tally = tally; count = n } ∷ []) ≡ (if b then n else count_of k cs)
    by true e =
        ap (λ k. count_of k (cs ++ record { tally = tally; count = n } ∷ [])) (tally_exact k tally e)
        ∙ ap counted (found_behind (is_counter tally) cs (record { tally = tally; count = n }) none)
        ∙ ap (λ b. counted (cond b (Some (record { tally = tally; count = n })) None)) (tally_equiv.refl tally)
    by false e = ap counted (found_before (is_counter k) cs (record { tally = tally; count = n }) e)

-- one less
pub count_lowered : (k tally : Tally) (cs : List Counter) → count_of k (change_first (is_counter tally) with_less cs) ≡ count_of k cs - one (tally_eq k tally)
count_lowered k tally cs = by (tally_eq k tally) refl
  where
    by : (b : Bool) → tally_eq k tally ≡ b → count_of k (change_first (is_counter tally) with_less cs) ≡ count_of k cs - one b
    by true e =
        ap (λ k. count_of k (change_first (is_counter tally) with_less cs)) (tally_exact k tally e)
        ∙ ap counted (found_changed (is_counter tally) with_less (λ c. refl) cs)
        ∙ counted_less (find (is_counter tally) cs)
        ∙ ap (λ k. count_of k cs - 1) (sym (tally_exact k tally e))
    by false e = let same = other with_less (λ c. refl) k tally cs e in omega (arith, same)

-- where a count becomes one more, it has one more
pub count_raised : (k tally : Tally) (old new : List Counter) (n : ℕ) → n ≡ count_of tally old + 1
    → count_of k new ≡ (if tally_eq k tally then n else count_of k old) → count_of k new ≡ count_of k old + one (tally_eq k tally)
count_raised k tally old new n is h = h ∙ by (tally_eq k tally) refl
  where
    by : (b : Bool) → tally_eq k tally ≡ b → (if b then n else count_of k old) ≡ count_of k old + one b
    by true e = is ∙ ap (λ t. count_of t old + 1) (sym (tally_exact k tally e))
    by false e = omega arith

module _ (f g : Tally → ℕ) (old mid : List Counter) (can : CanAdd (λ k. f k + g k) old) where
  -- of two that can be added the first can, and then the second
  pub can_first : CanAdd f old
  can_first k = let c = can k in omega (arith, c)

  pub can_second : Adds f old mid → CanAdd g mid
  can_second first k = let c = can k in let a = first k in omega (arith, c, a)

-- both were added
pub adds_both : (f g : Tally → ℕ) (old mid new : List Counter) → Adds f old mid → Adds g mid new → Adds (λ k. f k + g k) old new
adds_both f g old mid new first second k = let a = first k in let b = second k in omega (arith, a, b)

module _ (f g : Tally → ℕ) (same : (k : Tally) → f k ≡ g k) (old : List Counter) where
  -- what adds alike can be added alike
  pub can_alike : CanAdd f old → CanAdd g old
  can_alike can k = let c = can k in let e = same k in omega (arith, c, e)

  pub adds_alike : (new : List Counter) → Adds g old new → Adds f old new
  adds_alike new adds k = adds k ∙ ap (λ n. count_of k old + n) (sym (same k))
