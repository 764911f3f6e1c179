-- A schedule: lines, each with a line feed at its end, and what they say.
use Rattle.std.specs.Prelude.{◌≡◌, ◌≢◌, ◌⊎◌, ℕ, ◌+◌, Bool, true, false, List, [], ◌∷◌, ◌++◌, length, codes, All, Ok, Err}
use Rattle.std.specs.List.{flat_map}
use Rattle.std.specs.declared.result.Result.{Result}
use Rattle.nqs_types.specs.declared.world.WorldEvent.{WorldEvent}
pub use Rattle.nqs_rules.specs.Transcript.{line as ended}
use Rattle.nqs_schedule.specs.declared.cause.Cause.{Cause}
use Rattle.nqs_schedule.specs.declared.cause.Cause.TheVariants as cause
use Rattle.nqs_schedule.specs.declared.line.Says.{Says}
use Rattle.nqs_schedule.specs.declared.line.Says.TheVariants.{Nothing, Hosts, Event}
use Rattle.nqs_schedule.specs.declared.line.ReadError.TheVariants as error
use Rattle.nqs_schedule.specs.declared.reader.ScheduleFault.{ScheduleFault}
use Rattle.nqs_schedule.specs.declared.reader.ScheduleFault.TheVariants.{Bad, Memory}
use Rattle.nqs_schedule.specs.declared.reader.Schedule.{Schedule}
use Rattle.nqs_schedule.specs.Words.{Read, ◌>>=◌}
use Rattle.nqs_schedule.specs.Says.{line_says}

-- what lines have said: the site, and the events; `is_open`: nothing yet
pub record State : Type 0 where
  pub site : List (List ℕ)
  pub events : List WorldEvent
  pub is_open : Bool

-- without a line of hosts the site is `alpha`
abbrev pub start : State
start = record { site = codes "alpha" ∷ []; events = []; is_open = true }

-- what lines have said, with one more
abbrev pub after : State → Says → State
after s Nothing = s
after s (Hosts site) = record { site = site; events = s.events; is_open = false }
after s (Event e) = record { site = s.site; events = s.events ++ e ∷ []; is_open = false }

-- what lines say, one after another
unfoldable pub lines_say : State → List (List ℕ) → Read State
lines_say s [] = Ok s
lines_say s (line ∷ lines) = line_says s.site s.is_open line >>= (λ says. lines_say (after s says) lines)

-- no line feed is in it
abbrev pub IsLine : List ℕ → Type 0
IsLine line = All (λ b. b ≢ 10) line

-- no line feed is in any of them
abbrev pub AreLines : List (List ℕ) → Type 0
AreLines [] = Unit {0}
AreLines (line ∷ lines) = IsLine line × AreLines lines

-- the bytes begin with these lines, which say this, and then comes the rest
pub record Front (bytes : List ℕ) (lines : List (List ℕ)) (state : State) (rest : List ℕ) : Type 0 where
  pub split : bytes ≡ flat_map ended lines ++ rest
  pub whole : AreLines lines
  pub say : lines_say start lines ≡ Ok state

-- the bytes are lines, and this is what they say
abbrev pub IsSchedule : List ℕ → State → Type 0
IsSchedule bytes state = (lines : List (List ℕ)) × Front bytes lines state []

-- a bad line comes first: one that has a cause to be bad
abbrev pub BadLine : State → List ℕ → Cause → Type 0
BadLine state rest why = (line : List ℕ) × (more : List ℕ) × (rest ≡ ended line ++ more) × IsLine line × (line_says state.site state.is_open line ≡ Err why)

-- or a last one without an end
abbrev pub Unended : List ℕ → Cause → Type 0
Unended rest why = (why ≡ cause.Unended) × (rest ≢ []) × IsLine rest

-- the rest begins with a bad line, or is one without an end
abbrev pub BeginsBad : State → List ℕ → Cause → Type 0
BeginsBad state rest why = BadLine state rest why ⊎ Unended rest why

-- the line of this number is the first that is bad, from this cause
abbrev pub IsFirstBad : List ℕ → ℕ → Cause → Type 0
IsFirstBad bytes number why = (lines : List (List ℕ)) × (state : State) × (rest : List ℕ) × Front bytes lines state rest × BeginsBad state rest why
    × (number ≡ length lines + 1)

-- what reading a schedule answers; the cases exclude each other, but that memory may be wanting
abbrev pub ReadsSchedule : List ℕ → Result Schedule ScheduleFault → Type 0
ReadsSchedule bytes (Ok s) = (state : State) × IsSchedule bytes state × (s.site ≡ state.site) × (s.events ≡ state.events)
ReadsSchedule bytes (Err (Bad fault)) = IsFirstBad bytes fault.line fault.cause
ReadsSchedule bytes (Err (Memory memory)) = Unit {0}
