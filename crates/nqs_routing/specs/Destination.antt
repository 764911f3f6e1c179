-- The destination that is tried for a row.
use Rattle.std.specs.Prelude.{ℕ, Option}
use Rattle.std.specs.Option.{option_and_then}
use Rattle.nqs_state.specs.State.{State}
use Rattle.nqs_rules.specs.Find.{find_queue}
use Rattle.nqs_rules.specs.Routing.{destination}
use Rattle.nqs_types.specs.declared.request.Row.{Row}

module _ {E : Type 0} where
  -- the destination of the row's queue, and none where that queue isn't there
  abbrev pub destination_of : ℕ → State E → Row E → Option ℕ
  destination_of now s r = option_and_then (λ d. destination d now s r) (find_queue r.queue s)
