-- A queue where no row waits isn't a candidate.
use Rattle.std.proofs.Common.{◌≡◌, ℕ, Bool, false, ◌&&◌, length, filter, is_some, sym, ap, ◌∙◌}
use Rattle.std.proofs.Math.Bool.{and-false}
use Rattle.std.specs.List.{list_any}
use Rattle.nqs_base.proofs.Plain.{none_narrower}
use Rattle.nqs_state.specs.State.{State}
use Rattle.nqs_types.specs.declared.request.Row.{Row}
use Rattle.nqs_types.specs.declared.queue.QueueDef.{QueueDef}
use Rattle.nqs_rules.specs.Order.{is_active_of, below, kind_allows, is_eligible, comes_before, first_eligible, is_within_limits, is_candidate}
use Rattle.nqs_rules.proofs.BestLaws.{best_is_some}
use Rattle.nqs_order.specs.Waiting.{is_waiting}

module _ {E : Type 0} (d : QueueDef) (now : ℕ) (s : State E) where
  eligible_waits : (r : Row E) → is_waiting d now r ≡ false → is_eligible d now s r ≡ false
  eligible_waits r none = ap (λ (b : Bool). b && below (length (filter (is_active_of d.name r.job.owner) s.rows)) d.user_limit
      && kind_allows d.kind d now s r) none

  none_eligible : list_any (is_waiting d now) s.rows ≡ false → is_some (first_eligible d now s) ≡ false
  none_eligible none = best_is_some (is_eligible d now s) comes_before 0 s.rows
      ∙ none_narrower (is_waiting d now) (is_eligible d now s) eligible_waits s.rows none

  pub no_candidate : list_any (is_waiting d now) s.rows ≡ false → false ≡ is_candidate now s d
  no_candidate none = sym (ap (λ (b : Bool). d.started && is_within_limits d s && b) (none_eligible none) ∙ and-false (d.started && is_within_limits d s))
