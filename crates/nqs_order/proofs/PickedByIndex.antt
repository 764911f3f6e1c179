-- What is picked over an index is what the rules pick.
use Rattle.std.proofs.Common.{◌≡◌, ℕ, Bool, true, false, ◌&&◌, Option, None, Some, is_some, refl, sym, ap, ◌∙◌}
use Rattle.std.proofs.Math.Bool.{and-false}
use Rattle.std.specs.List.{list_any}
use Rattle.nqs_state.specs.State.{State}
use Rattle.nqs_base_tables.specs.Table.{best_from}
use Rattle.nqs_types.specs.declared.queue.Kind.{Kind}
use Rattle.nqs_types.specs.declared.queue.Kind.TheVariants.{Batch, Device, Pipe}
use Rattle.nqs_types.specs.declared.queue.QueueDef.{QueueDef}
use Rattle.nqs_types.specs.declared.request.Row.{Row}
use Rattle.nqs_rules.specs.InOrder.{IsInOrder}
use Rattle.nqs_rules.specs.Order.{is_greater, comes_before, print_on}
use Rattle.nqs_rules.specs.Order as by_rows
use Rattle.nqs_rules.proofs.BestLaws.{best_is_some}
use Rattle.nqs_index.specs.declared.index.Index.{Index}
use Rattle.nqs_index.specs.Indexed.{StandsForIndex, classes_in}
use Rattle.nqs_order.specs.ByIndex.{is_filled, fewer_in_batch, is_within_limits, may_serve, has_eligible, is_candidate, next_queue, choice_for, choice_of}
use Rattle.nqs_order.specs.ByIndex.{pick_in, pick}
use Rattle.nqs_order.proofs.CountsOfRows.{free_device_is, within_is}
use Rattle.nqs_order.proofs.FirstOfClasses.{has_same, first_same}
use Rattle.nqs_order.proofs.Served.{filled, served}

-- what follows from the last of four need not be looked at
four : (a f w v x : Bool) → (x ≡ true → f ≡ true) → (x ≡ true → v ≡ true) → (a && (f && w && v && x)) ≡ (a && w && x)
four true f w v true filled serves = (λ j. filled refl j && w && serves refl j && true) ∙ and_true w
  where
    and_true : (b : Bool) → (true && b && true && true) ≡ (true && b && true)
    and_true true = refl
    and_true false = refl
four true f w v false filled serves = and-false (f && w && v) ∙ sym (and-false w)
four false f w v x filled serves = refl

module _ {E : Type 0} (index : Index) (s : State E) (stands : StandsForIndex index s.rows) (order : IsInOrder s) (now : ℕ) where
  abbrev batch : Bool
  batch = fewer_in_batch index s.global_limit s.queues

  candidate_is : (d : QueueDef) → is_candidate index batch now s d ≡ by_rows.is_candidate now s d
  candidate_is d =
      four d.started (is_filled (classes_in d.name index)) (is_within_limits index d batch s) (may_serve d.kind index d s)
      (has_eligible index d now s (classes_in d.name index)) (filled index d now s (classes_in d.name index)) (served index s stands order d now)
      ∙ (λ j. d.started && within_is index s stands order d j && (has_same index s stands order d now ∙ some d) j)
    where
      some : (d : QueueDef) → list_any (by_rows.is_eligible d now s) s.rows ≡ is_some (by_rows.first_eligible d now s)
      some d = sym (best_is_some (by_rows.is_eligible d now s) comes_before 0 s.rows)

  next_is : next_queue index now s ≡ by_rows.next_queue now s
  next_is = (λ j. best_from (λ d. candidate_is d j) is_greater 0 s.queues)

  choice_is : (k : Kind) (d : QueueDef) (place : ℕ) (r : Row E) → choice_for k index d now s place r ≡ by_rows.choice_for k d now s place r
  choice_is Batch d place r = refl
  choice_is Device d place r = ap (print_on place) (free_device_is index s stands d r.job.forms)
  choice_is Pipe d place r = refl

  choices_are : (d : QueueDef) (o : Option (ℕ × Row E)) → choice_of index d now s o ≡ by_rows.choice_of d now s o
  choices_are d None = refl
  choices_are d (Some p) = choice_is d.kind d p.0 p.1

  pub picks_same : pick index now s ≡ by_rows.pick now s
  picks_same = ap (pick_in index now s) next_is ∙ of (by_rows.next_queue now s)
    where
      of : (o : Option (ℕ × QueueDef)) → pick_in index now s o ≡ by_rows.pick_in now s o
      of None = refl
      of (Some q) = ap (choice_of index q.1 now s) (first_same index s stands order q.1 now) ∙ choices_are q.1 (by_rows.first_eligible q.1 now s)
