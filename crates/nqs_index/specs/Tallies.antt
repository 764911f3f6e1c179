-- Counts of rows, each under what it counts.
use Rattle.std.specs.Prelude.{◌≡◌, ℕ, ◌+◌, ◌-◌, ◌<◌, ◌^◌, Bool, true, false, ◌&&◌, if◌then◌else◌, List, ◌++◌, find, Option, None, Some}
use Rattle.std.specs.Cmp.{IsEquivalence, both_ways}
use Rattle.std.specs.Cmp.Lexicographic.{nat_list_eq_equiv}
use Rattle.std.specs.Hash as fed
use Rattle.std.proofs.Common.{sym, ap, ◌∙◌, true≢false}
use Rattle.std.proofs.lemmas.Bool.{and_parts, and_from}
use Rattle.nqs_base.specs.Same.{name_eq, name_exact}
use Rattle.nqs_base_tables.specs.Table.{has_key}
use Rattle.nqs_index.specs.declared.tally.Tally.{Tally}
use Rattle.nqs_index.specs.declared.tally.Tally.TheVariants.{Active, Running, Owned, Printing}
use Rattle.nqs_index.specs.declared.tally.Counter.{Counter}

-- whether two tallies are one
abbrev pub tally_eq : Tally → Tally → Bool
tally_eq (Active q) (Active r) = name_eq q r
tally_eq (Running q) (Running r) = name_eq q r
tally_eq (Owned q o) (Owned r p) = name_eq q r && name_eq o p
tally_eq (Printing d) (Printing e) = name_eq d e
tally_eq _ _ = false

-- whether a counter is of this tally
abbrev pub is_counter : Tally → Counter → Bool
is_counter tally = has_key tally_eq (λ c. c.tally) tally

-- a counter with another count
abbrev pub with_count : ℕ → Counter → Counter
with_count n c = record { tally = c.tally; count = n }

-- a counter that counts one less
abbrev pub with_less : Counter → Counter
with_less c = record { tally = c.tally; count = c.count - 1 }

-- what a counter counts; nothing where there is none
abbrev pub counted : Option Counter → ℕ
counted None = 0
counted (Some c) = c.count

-- how many are counted under a tally
abbrev pub count_of : Tally → List Counter → ℕ
count_of tally counters = counted (find (is_counter tally) counters)

-- each count, with what is added to it, is one that can be told
abbrev pub CanAdd : (Tally → ℕ) → List Counter → Type 0
CanAdd more counters = (tally : Tally) → count_of tally counters + more tally < 2 ^ 64

-- each count has more by what is added to it
abbrev pub Adds : (Tally → ℕ) → List Counter → List Counter → Type 0
Adds more old new = (tally : Tally) → count_of tally new ≡ count_of tally old + more tally

-- one where it is so, and else none
abbrev pub one : Bool → ℕ
one b = if b then 1 else 0

-- tallies that compare alike are one
pub tally_exact : (a b : Tally) → tally_eq a b ≡ true → a ≡ b
tally_exact (Active q) (Active r) h = (λ j. Active (name_exact q r h j))
tally_exact (Running q) (Running r) h = (λ j. Running (name_exact q r h j))
tally_exact (Owned q o) (Owned r p) h =
    let e = and_parts (name_eq q r) (name_eq o p) h in
    (λ j. Owned (name_exact q r e.0 j) (name_exact o p e.1 j))
tally_exact (Printing d) (Printing e) h = (λ j. Printing (name_exact d e h j))
tally_exact (Active _) (Running _) h = absurd (true≢false (sym h))
tally_exact (Active _) (Owned _ _) h = absurd (true≢false (sym h))
tally_exact (Active _) (Printing _) h = absurd (true≢false (sym h))
tally_exact (Running _) (Active _) h = absurd (true≢false (sym h))
tally_exact (Running _) (Owned _ _) h = absurd (true≢false (sym h))
tally_exact (Running _) (Printing _) h = absurd (true≢false (sym h))
tally_exact (Owned _ _) (Active _) h = absurd (true≢false (sym h))
tally_exact (Owned _ _) (Running _) h = absurd (true≢false (sym h))
tally_exact (Owned _ _) (Printing _) h = absurd (true≢false (sym h))
tally_exact (Printing _) (Active _) h = absurd (true≢false (sym h))
tally_exact (Printing _) (Running _) h = absurd (true≢false (sym h))
tally_exact (Printing _) (Owned _ _) h = absurd (true≢false (sym h))

-- each tally compares alike with itself
same_tally : (k : Tally) → tally_eq k k ≡ true
same_tally (Active q) = nat_list_eq_equiv.refl q
same_tally (Running q) = nat_list_eq_equiv.refl q
same_tally (Owned q o) = and_from (name_eq q q) (name_eq o o) (nat_list_eq_equiv.refl q) (nat_list_eq_equiv.refl o)
same_tally (Printing d) = nat_list_eq_equiv.refl d

-- comparing tallies is an equivalence, and those that compare alike are one
pub tally_equiv : IsEquivalence tally_eq
tally_equiv = record {
  refl = same_tally;
  symm = λ a b. both_ways (tally_eq a b) (tally_eq b a) (λ h. ap (tally_eq b) (tally_exact a b h) ∙ same_tally b)
      (λ h. ap (tally_eq a) (tally_exact b a h) ∙ same_tally a);
  congr = λ a b c h. ap (λ k. tally_eq k c) (tally_exact a b h);
}

-- what a tally is hashed by: its kind, and its names
abbrev pub tally_fed : Tally → fed.HashWrites
tally_fed (Active q) = fed.u8 0 ++ fed.slice fed.u8 q
tally_fed (Running q) = fed.u8 1 ++ fed.slice fed.u8 q
tally_fed (Owned q o) = fed.u8 2 ++ fed.slice fed.u8 q ++ fed.slice fed.u8 o
tally_fed (Printing d) = fed.u8 3 ++ fed.slice fed.u8 d

-- tallies that compare alike are hashed alike
pub tally_fed_alike : (a b : Tally) → tally_eq a b ≡ true → tally_fed a ≡ tally_fed b
tally_fed_alike a b h = ap tally_fed (tally_exact a b h)
