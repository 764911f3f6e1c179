-- What the clock in memory tells.
use Rattle.std.specs.Prelude.{ℕ, ◌+◌, ◌-◌, min, List, length, if◌then◌else◌}
use Rattle.std.specs.declared.option.Option.{Option}
use Rattle.std.specs.declared.option.Option.TheVariants.{None, Some}
use Rattle.nqs_fakes.specs.declared.clock.ListClock.{ListClock}

-- the moments that it gave, unless memory ran out
abbrev pub given_of : ListClock → Option (List ℕ)
given_of c = if c.starved then None else Some c.given

-- the place of the next moment: the last one is given again
abbrev pub next_place : List ℕ → ℕ → ℕ
next_place moments at = min (at + 1) (length moments - 1)
