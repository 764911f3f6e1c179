-- What is started, by the row of a choice.
use Rattle.std.specs.Prelude.{ℕ, List, [], ◌∷◌, Option, Some}
use Rattle.std.specs.Option.{option_map}
use Rattle.nqs_state.specs.State.{State}
use Rattle.nqs_rules.specs.Causes.{Cause, cause}
use Rattle.nqs_rules.specs.Rows.{arrivals_used}
use Rattle.nqs_rules.specs.Handover.{open_hand}
use Rattle.nqs_rules.specs.Start.{launching, printing, holding, moving, device_at, dest_at}
use Rattle.nqs_rules.specs.Stepped.{Stepped}
use Rattle.nqs_types.specs.declared.request.Row.{Row}
use Rattle.nqs_types.specs.declared.refusal.Refusal.TheVariants.{NumbersUsed}
use Rattle.nqs_types.specs.declared.rule.Choice.{Choice}
use Rattle.nqs_types.specs.declared.rule.Choice.TheVariants.{Launch, Print, TooFar, Local, Hand}

module _ {E : Type 0} where
  -- no arrival number is left
  abbrev pub used_causes : State E → List Cause
  used_causes s = cause (arrivals_used s) NumbersUsed ∷ []

  -- what is done with the row of a choice
  abbrev pub started_row : Choice → ℕ → State E → Row E → Option (Stepped E)
  started_row (Launch _) now s r = Some (launching r s)
  started_row (Print _ device) now s r = option_map (λ d. printing d r s) (device_at device r s)
  started_row (TooFar _) now s r = Some (holding r)
  started_row (Local _ dest) now s r = option_map (λ d. moving d s r) (dest_at dest r s)
  started_row (Hand _ dest) now s r = option_map (λ d. open_hand d now s r) (dest_at dest r s)
