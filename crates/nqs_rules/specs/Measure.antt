-- How many starts there may still be: each start lowers this number.
use Rattle.std.specs.Prelude.{ℕ, ◌+◌, ◌-◌, ◌*◌, not, if◌then◌else◌, List, filter, length, sum, map}
use Rattle.nqs_state.specs.State.{State}
use Rattle.nqs_rules.specs.Tests.{is_ready}
use Rattle.nqs_rules.specs.Routing.{was_refused, dests_for}
use Rattle.nqs_types.specs.declared.ids.Dest.{Dest}
use Rattle.nqs_types.specs.declared.request.Row.{Row}

module _ {E : Type 0} where
  -- the destinations that haven't refused a request
  abbrev pub untried : Row E → State E → List Dest
  untried r s = filter (λ d. not (was_refused d r.refused)) (dests_for r s)

  -- A ready row may move so often as its hops allow, and before each move be refused by each of 16
  -- destinations.
  abbrev pub starts_of : State E → Row E → ℕ
  starts_of s r = if is_ready r then (33 - r.hops) * 17 + length (untried r s) else 0

  -- how many starts a host has left at most
  abbrev pub starts_left : State E → ℕ
  starts_left s = sum (map (starts_of s) s.rows)
