-- What an index counts, as counts of rows: limits and devices.
use Rattle.std.proofs.Common.{◌≡◌, ℕ, ◌+◌, ◌-◌, Bool, true, false, not, ◌&&◌, ◌||◌, nat_lt, List, [], ◌∷◌, length, map, filter, find, position, Option}
use Rattle.std.proofs.Common.{Some, is_some, refl, sym, ap, ◌∙◌, arith, if◌then◌else◌}
use Rattle.std.specs.Prelude.{cond}
use Rattle.std.proofs.lemmas.Bool.{and_parts, not-true}
use Rattle.std.proofs.lemmas.Bool.Decides.{nat_tests}
use Rattle.std.proofs.Math.Bool.{and_comm, and-false}
use Rattle.std.specs.Cmp.Lexicographic.{nat_list_eq_equiv}
use Rattle.std.specs.List.{list_any, list_all}
use Rattle.nqs_base.specs.Same.{name_eq, name_exact}
use Rattle.nqs_base.proofs.Plain.{none_narrower}
use Rattle.nqs_state.specs.State.{State}
use Rattle.nqs_state.specs.Keys.{is_queue}
use Rattle.nqs_types.specs.declared.request.Row.{Row}
use Rattle.nqs_types.specs.declared.queue.Kind.{Kind}
use Rattle.nqs_types.specs.declared.queue.Kind.TheVariants.{Batch, Device, Pipe}
use Rattle.nqs_types.specs.declared.queue.QueueDef.{QueueDef}
use Rattle.nqs_types.specs.declared.queue.ComplexDef.{ComplexDef}
use Rattle.nqs_rules.specs.Tests.{passes, is_running, is_batch}
use Rattle.nqs_rules.specs.Find.{has_name, find_device}
use Rattle.nqs_rules.specs.Limits.{is_batch_queue}
use Rattle.nqs_rules.specs.Devices.{can_serve, is_busy, runs_on}
use Rattle.nqs_rules.specs.Devices as devices_by_rows
use Rattle.nqs_rules.specs.InOrder.{IsInOrder, are_distinct}
use Rattle.nqs_rules.specs.Order.{below, is_active_in, is_active_of, runs_in_batch}
use Rattle.nqs_rules.specs.Order as by_rows
use Rattle.nqs_rules.proofs.ListMaps.{list_any-map}
use Rattle.nqs_rules.proofs.StateFacts.{keys_are}
use Rattle.nqs_index.specs.declared.index.Index.{Index}
use Rattle.nqs_index.specs.declared.tally.Tally.{Tally}
use Rattle.nqs_index.specs.declared.tally.Tally.TheVariants.{Active, Owned, Printing}
use Rattle.nqs_index.specs.Indexed.{counted_in, number, StandsForIndex}
use Rattle.nqs_index.specs.Seats.{seat_of, counts_for}
use Rattle.nqs_index.specs.Tallies.{one}
use Rattle.nqs_index.proofs.Numbers.{number-map, any_number, number_split, number_none}
use Rattle.nqs_order.specs.ByIndex.{user_allows, running_once, fewer_run, running_in_batch, fewer_in_batch, complex_allows, is_within_limits, free_device}
use Rattle.nqs_order.specs.ByIndex.{kind_allows, is_eligible}
use Rattle.nqs_order.specs.Waiting.{is_waiting}

name_turned : (a b : List ℕ) → name_eq a b ≡ name_eq b a
name_turned a b = nat_list_eq_equiv.symm a b

under : (a t n : ℕ) → (nat_lt a n && nat_lt t (n - a)) ≡ nat_lt (a + t) n
under a t n = grind (arith, nat_tests)

-- how many requests run in the queues of these names
abbrev total : Index → List (List ℕ) → ℕ
total index [] = 0
total index (q ∷ qs) = running_once index q qs + total index qs

fewer_total : (index : Index) (qs : List (List ℕ)) (limit : ℕ) → fewer_run index limit qs ≡ nat_lt (total index qs) limit
fewer_total index [] limit = refl
fewer_total index (q ∷ qs) limit = ap (λ b. nat_lt (running_once index q qs) limit && b) (fewer_total index qs (limit - running_once index q qs))
    ∙ under (running_once index q qs) (total index qs) limit

-- how many run in the batch queues
abbrev batch_total : Index → List QueueDef → ℕ
batch_total index [] = 0
batch_total index (d ∷ ds) = running_in_batch index d + batch_total index ds

batch_fewer : (index : Index) (ds : List QueueDef) (limit : ℕ) → fewer_in_batch index limit ds ≡ nat_lt (batch_total index ds) limit
batch_fewer index [] limit = refl
batch_fewer index (d ∷ ds) limit = ap (λ b. nat_lt (running_in_batch index d) limit && b) (batch_fewer index ds (limit - running_in_batch index d))
    ∙ under (running_in_batch index d) (batch_total index ds) limit

-- the names of queues
abbrev names : List QueueDef → List (List ℕ)
names ds = map (λ (d : QueueDef). d.name) ds

-- the queue is a batch queue of this name
abbrev is_batch_of : List ℕ → QueueDef → Bool
is_batch_of q d = is_batch d.kind && name_eq d.name q

-- the queues have a batch queue of the name
abbrev has_batch : List QueueDef → List ℕ → Bool
has_batch ds q = list_any (is_batch_of q) ds

-- no queue of the name is there
none_named : (q : List ℕ) (ds : List QueueDef) → list_any (name_eq q) (names ds) ≡ false → has_batch ds q ≡ false
none_named q ds none =
    none_narrower (λ d. name_eq q d.name) (is_batch_of q) (λ d h. ap (λ b. is_batch d.kind && b) (name_turned d.name q ∙ h) ∙ and-false (is_batch d.kind)) ds
    (sym (list_any-map (λ (d : QueueDef). d.name) (name_eq q) ds) ∙ none)

-- where no two queues have one name, the one that is found is the batch queue
batch_found : (q : List ℕ) (ds : List QueueDef) → are_distinct name_eq (names ds) ≡ true
    → has_batch ds q ≡ passes is_batch_queue (find (is_queue q) ds)
batch_found q [] distinct = refl
batch_found q (d ∷ ds) distinct = by (name_eq q d.name) refl (batch_found q ds p.1)
  where
    p : (not (list_any (name_eq d.name) (names ds)) ≡ true) × (are_distinct name_eq (names ds) ≡ true)
    p = and_parts (not (list_any (name_eq d.name) (names ds))) (are_distinct name_eq (names ds)) distinct

    true_or : (b : Bool) → ((b && true) || false) ≡ b
    true_or true = refl
    true_or false = refl

    false_or : (b c : Bool) → ((b && false) || c) ≡ c
    false_or true c = refl
    false_or false c = refl

    by : (b : Bool) → name_eq q d.name ≡ b → has_batch ds q ≡ passes is_batch_queue (find (is_queue q) ds)
        → has_batch (d ∷ ds) q ≡ passes is_batch_queue (cond b (Some d) (find (is_queue q) ds))
    by true e rest =
        (λ j. (is_batch d.kind && (name_turned d.name q ∙ e) j) || none_named q ds (ap (λ n. list_any (name_eq n) (names ds)) (name_exact q d.name e)
        ∙ not-true _ p.0) j)
        ∙ true_or (is_batch d.kind)
    by false e rest =
        (λ j. (is_batch d.kind && (name_turned d.name q ∙ e) j) || has_batch ds q) ∙ false_or (is_batch d.kind) (has_batch ds q) ∙ rest

module _ {E : Type 0} where
  -- whether a row counts under a tally, in the words of the rules
  abbrev counts : Tally → Row E → Bool
  counts (Active q) r = is_active_in q r
  counts (Tally.Running q) r = is_running r.state && name_eq q r.queue
  counts (Owned q o) r = is_active_of q o r
  counts (Printing d) r = runs_on d r

  counts_same : (tally : Tally) (r : Row E) → counts_for tally (seat_of r) ≡ counts tally r
  counts_same (Active q) r = refl
  counts_same (Tally.Running q) r = refl
  counts_same (Owned q o) r = refl
  counts_same (Printing d) r = refl

module _ {E : Type 0} (index : Index) (s : State E) (stands : StandsForIndex index s.rows) where
  count_is : (tally : Tally) → counted_in tally index ≡ number (counts tally) s.rows
  count_is tally = stands.counts tally ∙ number-map seat_of (counts_for tally) s.rows ∙ (λ j. number (λ (r : Row E). counts_same tally r j) s.rows)

  users_are : (d : QueueDef) (owner : List ℕ) → user_allows index d owner ≡ below (length (filter (is_active_of d.name owner) s.rows)) d.user_limit
  users_are d owner = ap (λ n. below n d.user_limit) (count_is (Owned d.name owner))

  busy_is : (device : List ℕ) → nat_lt 0 (counted_in (Printing device) index) ≡ is_busy device s
  busy_is device = ap (nat_lt 0) (count_is (Printing device)) ∙ sym (any_number (runs_on device) s.rows)

  pub free_device_is : (d : QueueDef) (forms : Option (List ℕ)) → free_device index d forms s ≡ devices_by_rows.free_device d forms s
  free_device_is d forms = (λ j. position (λ device. passes (can_serve forms) (find_device device s) && not (busy_is device j)) d.devices)

  pub kind_is : (k : Kind) (d : QueueDef) (now : ℕ) (r : Row E) → kind_allows k index d now s r ≡ by_rows.kind_allows k d now s r
  kind_is Batch d now r = refl
  kind_is Device d now r = ap (λ o. is_some o) (free_device_is d r.job.forms)
  kind_is Pipe d now r = refl

  pub eligible_is : (d : QueueDef) (now : ℕ) (r : Row E) → is_eligible index d now s r ≡ by_rows.is_eligible d now s r
  eligible_is d now r = (λ j. is_waiting d now r && users_are d r.job.owner j && kind_is d.kind d now r j)

  -- complexes

  abbrev runs_among : List (List ℕ) → Row E → Bool
  runs_among qs r = is_running r.state && has_name qs r.queue

  abbrev runs_once : List ℕ → List (List ℕ) → Row E → Bool
  runs_once q qs r = not (has_name qs q) && (is_running r.state && name_eq q r.queue)

  once_is : (q : List ℕ) (qs : List (List ℕ)) → running_once index q qs ≡ number (runs_once q qs) s.rows
  once_is q qs = by (has_name qs q)
    where
      by : (b : Bool) → (if b then 0 else counted_in (Tally.Running q) index)
          ≡ number (λ (r : Row E). not b && (is_running r.state && name_eq q r.queue)) s.rows
      by true = sym (number_none (λ (r : Row E). false) (λ r. refl) s.rows)
      by false = count_is (Tally.Running q)

  one_name : (q : List ℕ) (qs : List (List ℕ)) (r : Row E) → one (runs_among (q ∷ qs) r) ≡ one (runs_once q qs r) + one (runs_among qs r)
  one_name q qs r = (λ j. one (is_running r.state && (name_turned r.queue q j || has_name qs r.queue))) ∙ by (name_eq q r.queue) refl
    where
      here : (run has : Bool) → one (run && (true || has)) ≡ one (not has && (run && true)) + one (run && has)
      here true true = refl
      here true false = refl
      here false true = refl
      here false false = refl

      elsewhere : (run has again : Bool) → one (run && (false || has)) ≡ one (not again && (run && false)) + one (run && has)
      elsewhere true true true = refl
      elsewhere true true false = refl
      elsewhere true false true = refl
      elsewhere true false false = refl
      elsewhere false has true = refl
      elsewhere false has false = refl

      by : (b : Bool) → name_eq q r.queue ≡ b
          → one (is_running r.state && (b || has_name qs r.queue)) ≡ one (not (has_name qs q) && (is_running r.state && b)) + one (runs_among qs r)
      by true e = here (is_running r.state) (has_name qs r.queue)
          ∙ (λ j. one (not (has_name qs (sym (name_exact q r.queue e) j)) && (is_running r.state && true)) + one (runs_among qs r))
      by false e = elsewhere (is_running r.state) (has_name qs r.queue) (has_name qs q)

  total_is : (qs : List (List ℕ)) → total index qs ≡ number (runs_among qs) s.rows
  total_is [] = sym (number_none (runs_among []) (λ r. and-false (is_running r.state)) s.rows)
  total_is (q ∷ qs) = (λ j. once_is q qs j + total_is qs j) ∙ sym (number_split (runs_once q qs) (runs_among qs) (runs_among (q ∷ qs)) (one_name q qs) s.rows)

  complex_is : (q : List ℕ) (c : ComplexDef) → complex_allows index q c ≡ by_rows.complex_allows q s c
  complex_is q c = ap (λ b. not (has_name c.queues q) || b) (fewer_total index c.queues c.limit ∙ ap (λ n. nat_lt n c.limit) (total_is c.queues))

  -- batch queues

  abbrev batch_among : List QueueDef → Row E → Bool
  batch_among ds r = is_running r.state && has_batch ds r.queue

  abbrev batch_here : QueueDef → Row E → Bool
  batch_here d r = is_batch d.kind && (is_running r.state && name_eq d.name r.queue)

  running_is : (d : QueueDef) → running_in_batch index d ≡ number (batch_here d) s.rows
  running_is d = by (is_batch d.kind)
    where
      by : (b : Bool) → (if b then counted_in (Tally.Running d.name) index else 0)
          ≡ number (λ (r : Row E). b && (is_running r.state && name_eq d.name r.queue)) s.rows
      by true = count_is (Tally.Running d.name)
      by false = sym (number_none (λ (r : Row E). false) (λ r. refl) s.rows)

  one_queue : (d : QueueDef) (ds : List QueueDef) → list_any (name_eq d.name) (names ds) ≡ false → (r : Row E)
      → one (batch_among (d ∷ ds) r) ≡ one (batch_here d r) + one (batch_among ds r)
  one_queue d ds other r = by (name_eq d.name r.queue) refl
    where
      here : (run batch : Bool) → one (run && ((batch && true) || false)) ≡ one (batch && (run && true)) + one (run && false)
      here true true = refl
      here true false = refl
      here false true = refl
      here false false = refl

      elsewhere : (run batch has : Bool) → one (run && ((batch && false) || has)) ≡ one (batch && (run && false)) + one (run && has)
      elsewhere true true true = refl
      elsewhere true true false = refl
      elsewhere true false true = refl
      elsewhere true false false = refl
      elsewhere false true has = refl
      elsewhere false false has = refl

      none : name_eq d.name r.queue ≡ true → has_batch ds r.queue ≡ false
      none e = none_named r.queue ds (ap (λ n. list_any (name_eq n) (names ds)) (sym (name_exact d.name r.queue e)) ∙ other)

      by : (b : Bool) → name_eq d.name r.queue ≡ b
          → one (is_running r.state && ((is_batch d.kind && b) || has_batch ds r.queue))
          ≡ one (is_batch d.kind && (is_running r.state && b)) + one (batch_among ds r)
      by true e =
          (λ j. one (is_running r.state && ((is_batch d.kind && true) || none e j))) ∙ here (is_running r.state) (is_batch d.kind)
          ∙ (λ j. one (is_batch d.kind && (is_running r.state && true)) + one (is_running r.state && sym (none e) j))
      by false e = elsewhere (is_running r.state) (is_batch d.kind) (has_batch ds r.queue)

  batch_total_is : (ds : List QueueDef) → are_distinct name_eq (names ds) ≡ true → batch_total index ds ≡ number (batch_among ds) s.rows
  batch_total_is [] distinct = sym (number_none (batch_among []) (λ r. and-false (is_running r.state)) s.rows)
  batch_total_is (d ∷ ds) distinct =
      let p = and_parts (not (list_any (name_eq d.name) (names ds))) (are_distinct name_eq (names ds)) distinct in
      (λ j. running_is d j + batch_total_is ds p.1 j)
      ∙ sym (number_split (batch_here d) (batch_among ds) (batch_among (d ∷ ds)) (one_queue d ds (not-true _ p.0)) s.rows)

  -- the limits, where no two queues have one name
  module _ (order : IsInOrder s) where
    abbrev counted_batch : Bool
    counted_batch = fewer_in_batch index s.global_limit s.queues

    global_is : counted_batch ≡ nat_lt (length (filter (runs_in_batch s) s.rows)) s.global_limit
    global_is =
        let distinct = (keys_are s order.keys).queues in
        batch_fewer index s.queues s.global_limit
        ∙ ap (λ n. nat_lt n s.global_limit) (batch_total_is s.queues distinct
        ∙ (λ j. number (λ (r : Row E). is_running r.state && batch_found r.queue s.queues distinct j) s.rows))

    batch_is : (q : List ℕ) → (counted_batch && list_all (complex_allows index q) s.complexes) ≡ by_rows.batch_allows q s
    batch_is q = and_comm counted_batch (list_all (complex_allows index q) s.complexes) ∙ (λ j. list_all (λ c. complex_is q c j) s.complexes && global_is j)

    pub within_is : (d : QueueDef) → is_within_limits index d counted_batch s ≡ by_rows.is_within_limits d s
    within_is d = (λ j. nat_lt (count_is (Active d.name) j) d.run_limit && (not (is_batch d.kind) || batch_is d.name j))
