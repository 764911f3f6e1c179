-- What taking a line makes of what was read so far.
use Rattle.std.specs.Prelude.{◌≡◌, ℕ, List, Ok, Err}
use Rattle.std.specs.declared.result.Result.{Result}
use Rattle.nqs_schedule.specs.declared.line.Says.{Says}
use Rattle.nqs_schedule.specs.declared.reader.Reading.{Reading}
use Rattle.nqs_schedule.specs.declared.reader.ScheduleFault.{ScheduleFault}
use Rattle.nqs_schedule.specs.declared.reader.ScheduleFault.TheVariants.{Bad, Memory}
use Rattle.nqs_schedule.specs.Says.{line_says}
use Rattle.nqs_schedule.specs.Schedule.{State, after}

-- what was read so far, as a schedule's lines say it
abbrev pub state_of : Reading → State
state_of r = record { site = r.site; events = r.events; is_open = r.is_open }

-- a line that says something adds it; a bad one is named by its number, with the cause; memory may
-- be wanting
abbrev pub TakesLine : State → List ℕ → ℕ → Result (Unit {0}) ScheduleFault → State → Type 0
TakesLine old line number (Ok done) new = (says : Says) × (line_says old.site old.is_open line ≡ Ok says) × (new ≡ after old says)
TakesLine old line number (Err (Bad fault)) new = (fault.line ≡ number) × (line_says old.site old.is_open line ≡ Err fault.cause)
TakesLine old line number (Err (Memory memory)) new = Unit {0}
