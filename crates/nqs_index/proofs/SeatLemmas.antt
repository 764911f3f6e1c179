-- Seats of rows, as rows come, go and change.
use Rattle.std.proofs.Common.{◌≡◌, ℕ, ◌+◌, Bool, false, List, [], ◌∷◌, ◌++◌, map, find, Option, None, Some, refl, sym, ap, ◌∙◌, arith}
use Rattle.std.specs.Prelude.{◌&&◌, cond}
use Rattle.std.specs.List.Sorted.{IsPermutation}
use Rattle.std.proofs.lemmas.List.Sorted.{sum_by-IsPermutation}
use Rattle.std.proofs.lemmas.List.Sums.{length-filter}
use Rattle.nqs_base_tables.specs.Table.{change_first, without_first}
use Rattle.nqs_types.specs.RowStates.{is_running}
use Rattle.nqs_types.specs.declared.request.Row.{Row}
use Rattle.nqs_index.specs.declared.index.Index.{Index}
use Rattle.nqs_index.specs.declared.seat.Seat.{Seat}
use Rattle.nqs_index.specs.Indexed.{Stands}
use Rattle.nqs_index.specs.Numbers.{number, IsMore}
use Rattle.nqs_types.specs.RowStates.{is_active}
use Rattle.nqs_types.specs.declared.request.RowState.TheVariants.{Queued, Routing, Running}
use Rattle.nqs_base.specs.Same.{name_eq}
use Rattle.nqs_index.specs.declared.tally.Tally.{Tally}
use Rattle.nqs_index.specs.declared.tally.Tally.TheVariants.{Active, Running as RunningOf, Owned, Printing}
use Rattle.nqs_index.specs.Seats.{seat_of, counts_for, waits_in, entry_of, same_name_as, is_of_device, ones_of_active, ones_of_running}
use Rattle.nqs_index.specs.Tallies.{one, tally_eq}
use Rattle.nqs_index.proofs.Numbers.{number-map, more_behind, more_found, more_changed}

module _ {E : Type 0} where
  -- rows with one more, as seats with one more
  mapped : (r : Row E) (xs ys : List (Row E)) → IsMore r xs ys → IsMore (seat_of r) (map seat_of xs) (map seat_of ys)
  mapped r xs ys more p = number-map seat_of p ys ∙ more (λ r. p (seat_of r)) ∙ ap (λ n. n + one (p (seat_of r))) (sym (number-map seat_of p xs))

  -- a row came
  pub seat_added : (r : Row E) (rows : List (Row E)) → IsMore (seat_of r) (map seat_of rows) (map seat_of (rows ++ r ∷ []))
  seat_added r rows = mapped r rows (rows ++ r ∷ []) (more_behind r rows)

  -- a row goes
  pub seat_gone : (t : Row E → Bool) (rows : List (Row E)) (r : Row E) → find t rows ≡ Some r
      → IsMore (seat_of r) (map seat_of (without_first t rows)) (map seat_of rows)
  seat_gone t rows r h = mapped r (without_first t rows) rows (more_found t rows r h)

  -- a row changes
  pub seat_changed : (t : Row E → Bool) (f : Row E → Row E) (rows : List (Row E)) (r : Row E) → find t rows ≡ Some r
      → IsMore (seat_of (f r)) (map seat_of (without_first t rows)) (map seat_of (change_first t f rows))
  seat_changed t f rows r h = mapped (f r) (without_first t rows) (change_first t f rows) (more_changed t f rows r h)

-- seats of which as many pass each test, as others with the same one more
pub same_more : (t : Seat) (ts us vs : List Seat) → IsMore t ts us → IsMore t ts vs → (p : Seat → Bool) → number p us ≡ number p vs
same_more t ts us vs one other p = one p ∙ sym (other p)

-- an index stands for seats of which as many pass each test
pub same_stands : (i : Index) (us vs : List Seat) → ((p : Seat → Bool) → number p us ≡ number p vs) → Stands i us → Stands i vs
same_stands i us vs same stands = record {
  counts = λ k. stands.counts k ∙ same (counts_for k);
  lines = λ q test. stands.lines q test ∙ same (λ t. waits_in q t && test t.class (entry_of t));
  running = λ test. stands.running test ∙ same (λ t. is_running t.state && test t.id);
  order = stands.order;
  filled = stands.filled;
  apart = stands.apart;
}

number_permuted : {A : Type 0} (p : A → Bool) (xs ys : List A) → IsPermutation xs ys → number p ys ≡ number p xs
number_permuted p xs ys h = length-filter p ys ∙ sum_by-IsPermutation (λ x. cond (p x) 1 0) xs ys h ∙ sym (length-filter p xs)

-- an index stands for the same seats in another order
pub permuted : (i : Index) (us vs : List Seat) → IsPermutation us vs → Stands i vs → Stands i us
permuted i us vs h = same_stands i vs us (λ p. number_permuted p us vs h)

-- what a device adds to a count that isn't of a device
no_device : (k : Tally) (o : Option (List ℕ)) → ((d : List ℕ) → tally_eq k (Printing d) ≡ false) → is_of_device k o ≡ false
no_device k None other = refl
no_device k (Some d) other = other d

-- and to that of one
device_is : (d : List ℕ) (o : Option (List ℕ)) → is_of_device (Printing d) o ≡ same_name_as d o
device_is d None = refl
device_is d (Some e) = refl

-- a seat that runs is counted as active and as running
pub counted_running : (t : Seat) → t.state ≡ Running → (k : Tally) → one (counts_for k t) ≡ ones_of_active k t + ones_of_running k t
counted_running t is (Active q) =
    let a : one (is_active t.state && name_eq q t.queue) ≡ one (name_eq q t.queue) = (λ j. one (is_active (is j) && name_eq q t.queue)) in
    let b : one (is_of_device (Active q) t.device) ≡ 0 = (λ j. one (no_device (Active q) t.device (λ d. refl) j)) in
    omega (arith, a, b)
counted_running t is (RunningOf q) =
    let a : one (is_running t.state && name_eq q t.queue) ≡ one (name_eq q t.queue) = (λ j. one (is_running (is j) && name_eq q t.queue)) in
    let b : one (is_of_device (RunningOf q) t.device) ≡ 0 = (λ j. one (no_device (RunningOf q) t.device (λ d. refl) j)) in
    omega (arith, a, b)
counted_running t is (Owned q o) =
    let a : one ((is_active t.state && name_eq q t.queue) && name_eq o t.class.owner) ≡ one (name_eq q t.queue && name_eq o t.class.owner)
    = (λ j. one ((is_active (is j) && name_eq q t.queue) && name_eq o t.class.owner)) in
    let b : one (is_of_device (Owned q o) t.device) ≡ 0 = (λ j. one (no_device (Owned q o) t.device (λ d. refl) j)) in
    omega (arith, a, b)
counted_running t is (Printing d) =
    let a : one (is_running t.state && same_name_as d t.device) ≡ one (is_of_device (Printing d) t.device)
    = (λ j. one (is_running (is j) && sym (device_is d t.device) j)) in
    omega (arith, a)

-- one on its way as active alone
pub counted_routing : (t : Seat) → t.state ≡ Routing → (k : Tally) → one (counts_for k t) ≡ ones_of_active k t
counted_routing t is (Active q) =
    let a : one (is_active t.state && name_eq q t.queue) ≡ one (name_eq q t.queue) = (λ j. one (is_active (is j) && name_eq q t.queue)) in
    omega (arith, a)
counted_routing t is (RunningOf q) = (λ j. one (is_running (is j) && name_eq q t.queue))
counted_routing t is (Owned q o) =
    let a : one ((is_active t.state && name_eq q t.queue) && name_eq o t.class.owner) ≡ one (name_eq q t.queue && name_eq o t.class.owner)
    = (λ j. one ((is_active (is j) && name_eq q t.queue) && name_eq o t.class.owner)) in
    omega (arith, a)
counted_routing t is (Printing d) = (λ j. one (is_running (is j) && same_name_as d t.device))

-- and one that waits not at all
pub counted_queued : (t : Seat) → t.state ≡ Queued → (k : Tally) → one (counts_for k t) ≡ 0
counted_queued t is (Active q) = (λ j. one (is_active (is j) && name_eq q t.queue))
counted_queued t is (RunningOf q) = (λ j. one (is_running (is j) && name_eq q t.queue))
counted_queued t is (Owned q o) = (λ j. one ((is_active (is j) && name_eq q t.queue) && name_eq o t.class.owner))
counted_queued t is (Printing d) = (λ j. one (is_running (is j) && same_name_as d t.device))
