-- A handover opened for a row that is named by its place, and what keeps the numbers of rows small.
use Rattle.std.specs.Prelude.{ℕ, Bool, nat_lt, Option, None, Some}
use Rattle.std.specs.List.{list_all}
use Rattle.nqs_state.specs.State.{State}
use Rattle.nqs_rules.specs.Stepped.{Stepped, quiet}
use Rattle.nqs_rules.specs.Start.{started}
use Rattle.nqs_types.specs.declared.request.Row.{Row}
use Rattle.nqs_types.specs.declared.rule.Choice.TheVariants.{Hand}

module _ {E : Type 0} where
  -- one more move of the row can be counted in a byte
  abbrev pub may_count_hop : Row E → Bool
  may_count_hop r = nat_lt r.hops 255

  -- one more move of each row can be counted so
  abbrev pub may_count_hops : State E → Bool
  may_count_hops s = list_all may_count_hop s.rows

  -- the step that there is, or that nothing happens
  abbrev pub or_quiet : Option (Stepped E) → Stepped E
  or_quiet None = quiet
  or_quiet (Some x) = x

  -- the row and the destination at these places, and nothing where one of them isn't there
  abbrev pub open_hand_at : ℕ → ℕ → ℕ → State E → Stepped E
  open_hand_at row dest now s = or_quiet (started (Hand row dest) now s)
