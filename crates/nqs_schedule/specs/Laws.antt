-- Laws of schedules.
use Rattle.std.specs.Prelude.{◌≡◌, ◌⊎◌, ℕ, List, ◌++◌, length, Some}
use Rattle.nqs_words.specs.Quoted.{quoted, quoted_text}
use Rattle.nqs_schedule.specs.declared.cause.Cause.{Cause}
use Rattle.nqs_schedule.specs.Schedule.{State, IsLine, IsSchedule, IsFirstBad}

-- bytes say one thing at most
abbrev pub HasOneSchedule : Type 0
HasOneSchedule = (bytes : List ℕ) (one other : State) → IsSchedule bytes one → IsSchedule bytes other → one ≡ other

-- where they are a schedule no line is bad
abbrev pub IsGoodOrBad : Type 0
IsGoodOrBad = (bytes : List ℕ) (state : State) (number : ℕ) (why : Cause) → IsSchedule bytes state → IsFirstBad bytes number why → ⊥

-- bytes are a schedule, or a line of them is the first bad one
abbrev pub IsSaidOrBad : Type 0
IsSaidOrBad = (bytes : List ℕ) → ((state : State) × IsSchedule bytes state) ⊎ ((number : ℕ) × (why : Cause) × IsFirstBad bytes number why)

-- one line at most is the first bad one, from one cause
abbrev pub HasOneFault : Type 0
HasOneFault = (bytes : List ℕ) (one other : ℕ) (why because : Cause) → IsFirstBad bytes one why → IsFirstBad bytes other because
    → (one ≡ other) × (why ≡ because)

-- a word that is written within quotes is read back, with what follows it
abbrev pub QuotedReadsBack : Type 0
QuotedReadsBack = (word rest : List ℕ) → quoted (length (quoted_text word ++ rest)) (quoted_text word ++ rest) ≡ Some (word, rest)

-- and what is read of a line was written so
abbrev pub ReadWasQuoted : Type 0
ReadWasQuoted = (bytes word rest : List ℕ) → IsLine bytes → quoted (length bytes) bytes ≡ Some (word, rest) → bytes ≡ quoted_text word ++ rest
