-- Refusals by a queue of this host, by what a look-up found.
use Rattle.std.proofs.Common.{◌≡◌, ℕ, Bool, not, List, ◌∷◌, ◌++◌, Option, None, Some, Err, sym}
use Rattle.nqs_state.specs.State.{State}
use Rattle.nqs_access.proofs.Found.{queue_there, queue_missing}
use Rattle.nqs_rules.specs.Causes.{Cause, cause, first_refusal}
use Rattle.nqs_rules.specs.Find.{find_queue}
use Rattle.nqs_rules.specs.Rows.{causes_of, move_entry_causes}
use Rattle.nqs_rules.specs.Start.{local_causes}
use Rattle.nqs_types.specs.declared.request.Row.{Row}
use Rattle.nqs_types.specs.declared.queue.QueueDef.{QueueDef}
use Rattle.nqs_types.specs.declared.refusal.Refusal.TheVariants.{NoQueue}
use Rattle.nqs_step.specs.Started.{used_causes}

module _ {E : Type 0} (s : State E) (queue : List ℕ) (r : Row E) where
  abbrev part : Bool → Option QueueDef → List Cause
  part there found = cause (not there) (NoQueue queue) ∷ causes_of (move_entry_causes r) found ++ used_causes s

  pub local_found : (d : QueueDef) → Some d ≡ find_queue queue s → first_refusal (move_entry_causes r d ++ used_causes s)
      ≡ first_refusal (local_causes queue s r)
  local_found d h = (λ i. first_refusal (part (sym (queue_there queue s d (sym h)) i) (h i)))

  pub local_absent : None ≡ find_queue queue s → Err (NoQueue queue) ≡ first_refusal (local_causes queue s r)
  local_absent h = (λ i. first_refusal (part (sym (queue_missing queue s (sym h)) i) (h i)))
