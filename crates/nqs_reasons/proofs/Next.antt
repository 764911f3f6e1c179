-- A request is next exactly where its queue may start a request and it may start from there.
use Rattle.std.proofs.Common.{◌≡◌, ◌≢◌, ℕ, Bool, true, false, ◌&&◌, ◌||◌, not, nat_lt, nat_le, List, [], ◌∷◌, map, filter, length, slice_get, Option, None}
use Rattle.std.proofs.Common.{Some, refl, sym, ap, subst, ◌∙◌, true≢false, arith}
use Rattle.std.specs.List.{list_all}
use Rattle.std.proofs.lemmas.List.Folds.{list_all-append, list_all-map}
use Rattle.std.proofs.lemmas.Map.Keys.{any_passes_from_place}
use Rattle.nqs_base.specs.Same.{name_eq, name_exact}
use Rattle.nqs_base.proofs.Plain.{all-true}
use Rattle.nqs_state.specs.State.{State, Plain}
use Rattle.nqs_state.specs.Keys.{is_queue}
use Rattle.nqs_types.specs.declared.request.RowState.{RowState}
use Rattle.nqs_types.specs.declared.request.RowState.TheVariants.{Queued, Routing, Running}
use Rattle.nqs_types.specs.declared.request.Hold.{Hold}
use Rattle.nqs_types.specs.declared.request.Hold.TheVariants.{No, User, System}
use Rattle.nqs_types.specs.declared.queue.Kind.{Kind}
use Rattle.nqs_types.specs.declared.queue.Kind.TheVariants.{Batch, Device, Pipe}
use Rattle.nqs_types.specs.declared.queue.QueueDef.{QueueDef}
use Rattle.nqs_rules.specs.Tests.{passes, is_queued, is_unheld, is_ready, is_batch}
use Rattle.nqs_rules.specs.Find.{find_queue}
use Rattle.nqs_rules.specs.InOrder.{IsInOrder, is_row_right}
use Rattle.nqs_rules.specs.Order.{below, is_active_in, is_active_of, runs_in_batch, complex_allows, batch_allows, is_within_limits, kind_allows, is_eligible}
use Rattle.nqs_rules.specs.Picked.{PlainRow, has_eligible, may_start}
use Rattle.nqs_rules.proofs.ListFacts.{found_passes, list_all-weaker}
use Rattle.nqs_rules.proofs.KeyFacts.{found_any, all_get}
use Rattle.nqs_rules.proofs.RowFacts.{same_name, row_is}
use Rattle.nqs_types.specs.declared.reason.Reason.{Reason}
use Rattle.nqs_types.specs.declared.reason.Reason.TheVariants.{NoQueue, Next}
use Rattle.nqs_rules.specs.Reasons.{first_failing, state_reason, hold_reason, row_conditions, complex_condition, global_condition, kind_conditions}
use Rattle.nqs_rules.specs.Reasons.{conditions, goes_first, next_in, reason_in, reason_of}
use Rattle.nqs_reasons.specs.Chosen.{is_next, all_hold}
use Rattle.nqs_reasons.proofs.Failing.{and_true, told_last, not_said, all_passed}

-- the tests of a start in the order in which they are told, and in that of the rule
rearranged : (queued unheld come started user run batch kind : Bool)
    → (queued && (unheld && (come && (started && (user && (run && (batch && kind)))))))
    ≡ ((started && (run && batch)) && ((((queued && unheld) && come) && user) && kind))
rearranged queued unheld come started user run batch kind = grind arith

-- a further test that one test implies changes nothing beside that
implied : (a more test : Bool) → (test ≡ true → more ≡ true) → (a && test) ≡ ((a && more) && test)
implied false more test h = refl
implied true more true h = sym (ap (λ b. b && true) (h refl))
implied true true false h = refl
implied true false false h = refl

-- a queue that is found has the name
pub found_named : {E : Type 0} (q : List ℕ) (s : State E) (d : QueueDef) → find_queue q s ≡ Some d → name_eq d.name q ≡ true
found_named q s d found =
    let e : q ≡ d.name = name_exact q d.name (found_passes (is_queue q) s.queues d found) in
    subst (λ n. name_eq d.name n ≡ true) (sym e) (same_name d.name)

-- the reason is one that a condition has
abbrev is_of_condition : Reason → Bool
is_of_condition (Next count) = false
is_of_condition NoQueue = false
is_of_condition _ = true

abbrev is_no_queue : Reason → Bool
is_no_queue NoQueue = true
is_no_queue _ = false

-- how many a request that is next is told of
abbrev count_in : Reason → ℕ
count_in (Next count) = count
count_in _ = 0

not_next : (x : Reason) → is_of_condition x ≡ true → not (is_next x) ≡ true
not_next (Next count) h = absurd (true≢false (sym h))
not_next _ h = refl

not_no_queue : (x : Reason) → is_of_condition x ≡ true → not (is_no_queue x) ≡ true
not_no_queue NoQueue h = absurd (true≢false (sym h))
not_no_queue _ h = refl

state_of_condition : (x : RowState) → is_of_condition (state_reason x) ≡ true
state_of_condition Running = refl
state_of_condition Routing = refl
state_of_condition Queued = refl

hold_of_condition : (x : Hold) → is_of_condition (hold_reason x) ≡ true
hold_of_condition System = refl
hold_of_condition User = refl
hold_of_condition No = refl

module _ (d : QueueDef) (now : ℕ) (s : Plain) (r : PlainRow) where
  kind_not : (k : Kind) → list_all (λ c. is_of_condition c.1) (kind_conditions k d now s r) ≡ true
  kind_not Batch =
      list_all-append (λ c. is_of_condition c.1) (map (complex_condition d s) s.complexes) (global_condition s ∷ [])
      ∙ ap (λ b. b && true) (list_all-map (λ c. is_of_condition c.1) (complex_condition d s) s.complexes ∙ all-true s.complexes)
  kind_not Device = refl
  kind_not Pipe = refl

  kind_holds : (k : Kind) → all_hold (kind_conditions k d now s r) ≡ ((not (is_batch k) || batch_allows d.name s) && kind_allows k d now s r)
  kind_holds Batch =
      list_all-append (λ c. c.0) (map (complex_condition d s) s.complexes) (global_condition s ∷ [])
      ∙ ap (λ b. b && (nat_lt (length (filter (runs_in_batch s) s.rows)) s.global_limit && true)) (list_all-map (λ c. c.0) (complex_condition d s) s.complexes)
      ∙ ap (λ b. list_all (complex_allows d.name s) s.complexes && b) (and_true (nat_lt (length (filter (runs_in_batch s) s.rows)) s.global_limit))
      ∙ sym (and_true (batch_allows d.name s))
  kind_holds Device = and_true (kind_allows Device d now s r)
  kind_holds Pipe = and_true (kind_allows Pipe d now s r)

  -- the limits of the owner and of the queue
  abbrev user : Bool
  user = below (length (filter (is_active_of d.name r.job.owner) s.rows)) d.user_limit

  abbrev run : Bool
  run = nat_lt (length (filter (is_active_in d.name) s.rows)) d.run_limit

  -- each condition holds exactly where the queue may start a request and this one is eligible, but
  -- for its queue
  all_conditions : all_hold (conditions d now s r)
      ≡ ((d.started && is_within_limits d s) && (is_ready r && nat_le r.job.earliest now && user && kind_allows d.kind d now s r))
  all_conditions =
      ap (λ b. is_queued r.state && (is_unheld r.hold && (nat_le r.job.earliest now && (d.started && (user && (run && b)))))) (kind_holds d.kind)
      ∙ rearranged (is_queued r.state) (is_unheld r.hold) (nat_le r.job.earliest now) d.started user run (not (is_batch d.kind) || batch_allows d.name s)
      (kind_allows d.kind d now s r)

  -- no condition tells that a request is next, nor that there is no queue
  each_of_condition : list_all (λ c. is_of_condition c.1) (conditions d now s r) ≡ true
  each_of_condition = (λ j. state_of_condition r.state j && (hold_of_condition r.hold j && kind_not d.kind j))

  -- it is next where each condition holds
  told_next : is_next (first_failing (conditions d now s r) (next_in d now s r)) ≡ all_hold (conditions d now s r)
  told_next =
      told_last is_next (conditions d now s r) (next_in d now s r)
      (list_all-weaker (λ c. is_of_condition c.1) (λ c. not (is_next c.1)) (λ c. not_next c.1) (conditions d now s r) each_of_condition) refl

  -- they all hold exactly where its queue may start a request and it may start from there
  pub all_may : (place : ℕ) → slice_get s.rows place ≡ Some r → find_queue r.queue s ≡ Some d
      → all_hold (conditions d now s r) ≡ (may_start now s d && is_eligible d now s r)
  all_may place at found =
      all_conditions
      ∙ ap (λ b. (d.started && is_within_limits d s) && (b && is_ready r && nat_le r.job.earliest now && user && kind_allows d.kind d now s r))
      (sym (found_named r.queue s d found))
      ∙ implied (d.started && is_within_limits d s) (has_eligible now s d) (is_eligible d now s r)
      (λ e. any_passes_from_place (is_eligible d now s) s.rows place r at e)

  pub next_is : (place : ℕ) → slice_get s.rows place ≡ Some r → find_queue r.queue s ≡ Some d
      → is_next (reason_of now s r) ≡ (may_start now s d && is_eligible d now s r)
  next_is place at found =
      ap (λ o. is_next (reason_in o now s r)) found
      ∙ told_next ∙ all_may place at found

  -- a request that is next is told how many go first
  pub next_said : find_queue r.queue s ≡ Some d → is_next (reason_of now s r) ≡ true → reason_of now s r ≡ next_in d now s r
  next_said found is =
      ap (λ o. reason_in o now s r) found
      ∙ all_passed (conditions d now s r) (next_in d now s r) (sym told_next ∙ ap (λ o. is_next (reason_in o now s r)) (sym found) ∙ is)

  pub next_count : (n : ℕ) → find_queue r.queue s ≡ Some d → reason_of now s r ≡ Next n → length (filter (goes_first d now s r) s.rows) ≡ n
  next_count n found is = ap count_in (sym (next_said found (ap is_next is)) ∙ is)

  pub queue_told : find_queue r.queue s ≡ Some d → is_no_queue (reason_of now s r) ≡ false
  queue_told found =
      ap (λ o. is_no_queue (reason_in o now s r)) found
      ∙ not_said is_no_queue (conditions d now s r) (next_in d now s r)
      (list_all-weaker (λ c. is_of_condition c.1) (λ c. not (is_no_queue c.1)) (λ c. not_no_queue c.1) (conditions d now s r) each_of_condition) refl

module _ (now : ℕ) (s : Plain) where
  -- without a queue no request is next
  pub next_without : (r : PlainRow) → find_queue r.queue s ≡ None → is_next (reason_of now s r) ≡ false
  next_without r none =
      ap (λ o. is_next (reason_in o now s r)) none
      ∙ not_said is_next (row_conditions now r) NoQueue
      (list_all-weaker (λ c. is_of_condition c.1) (λ c. not (is_next c.1)) (λ c. not_next c.1) (row_conditions now r)
      (λ j. state_of_condition r.state j && (hold_of_condition r.hold j && true))) refl

  -- a request of a host in order has a queue
  pub queue_there : (place : ℕ) (r : PlainRow) → IsInOrder s → slice_get s.rows place ≡ Some r → passes (λ _. true) (find_queue r.queue s) ≡ true
  queue_there place r order at = found_any (is_queue r.queue) s.queues (row_is s r (all_get (is_row_right s) s.rows place r order.rows at)).queue

  pub some_queue : (place : ℕ) (r : PlainRow) → IsInOrder s → slice_get s.rows place ≡ Some r → reason_of now s r ≢ NoQueue
  some_queue place r order at told = by (find_queue r.queue s) refl (queue_there place r order at)
    where
      by : (o : Option QueueDef) → find_queue r.queue s ≡ o → passes (λ _. true) o ≡ true → ⊥
      by None is there = true≢false (sym there)
      by (Some d) is there = true≢false (ap is_no_queue (sym told) ∙ queue_told d now s r is)
