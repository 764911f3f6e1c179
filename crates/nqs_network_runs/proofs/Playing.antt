-- What comes of events and of a bad line is what comes of the input.
use Rattle.std.proofs.Common.{◌≡◌, ℕ, Bool, List, refl, subst, inl, inr, Option, Some, None}
use Rattle.nqs_types.specs.declared.world.WorldEvent.{WorldEvent}
use Rattle.nqs_outside.specs.Streams.{Sunk, Fed}
use Rattle.nqs_schedule.specs.declared.cause.Cause.{Cause}
use Rattle.nqs_schedule.specs.Schedule.{State, IsSchedule, IsFirstBad}
use Rattle.nqs_network_runs.specs.declared.status.Status.{Status}
use Rattle.nqs_network_runs.specs.declared.status.Status.TheVariants as status
use Rattle.nqs_network_runs.specs.declared.words.Generation.{Generation}
use Rattle.nqs_network_runs.specs.declared.words.Ask.{Ask}
use Rattle.nqs_network_runs.specs.declared.unparsed.Unparsed.{Unparsed}
use Rattle.nqs_network_runs.specs.Words.{asked}
use Rattle.nqs_network_runs.specs.Running.{text_of, bad_line_text, Runs, Reports}
use Rattle.nqs_network_runs.specs.Replay.{Left, Plays, Reads, EndsRead, EndsBy, Ends}

pub runs_same : (summary : Bool) (site other : List (List ℕ)) (events others : List WorldEvent) (sink : Sunk) (old new : Left) (result : Status) → site ≡ other
    → events ≡ others → Runs summary site events sink old new result → Runs summary other others sink old new result
runs_same summary site other events others sink old new result s e runs =
    subst (λ (es : List WorldEvent). Runs summary other es sink old new result) e
    (subst (λ (names : List (List ℕ)). Runs summary names events sink old new result) s runs)

played : (summary : Bool) (input : List ℕ) (state : State) (sink : Sunk) (old new : Left) (result : Status) → IsSchedule input state
    → Runs summary state.site state.events sink old new result → Plays summary input sink old new result
played summary input state sink old new status.Done is runs = (state, is, runs.0, runs.1)
played summary input state sink old new status.WriteFault is runs = (runs.0, (text_of summary state.site state.events, inl (state, is, refl), runs.1), runs.2)
played summary input state sink old new (status.Memory want) is runs = (inr (text_of summary state.site state.events, inl (state, is, refl), runs.0), runs.1)
played summary input state sink old new (status.DiskFull full) is runs = ((text_of summary state.site state.events, inl (state, is, refl), runs.0), runs.1)
played summary input state sink old new (status.Unparsed refused) is runs = absurd runs
played summary input state sink old new status.BadSchedule is runs = absurd runs
played summary input state sink old new status.BadWords is runs = absurd runs
played summary input state sink old new status.ReadFault is runs = absurd runs
played summary input state sink old new status.TooLong is runs = absurd runs

pub plays : (summary : Bool) (input : List ℕ) (state : State) (site : List (List ℕ)) (events : List WorldEvent) (sink : Sunk) (old new : Left) (result : Status)
    → IsSchedule input state → site ≡ state.site → events ≡ state.events → Runs summary site events sink old new result
    → Plays summary input sink old new result
plays summary input state site events sink old new result is s e runs =
    played summary input state sink old new result is (runs_same summary site state.site events state.events sink old new result s e runs)

pub reports : (summary : Bool) (input : List ℕ) (line : ℕ) (cause : Cause) (sink : Sunk) (left : Left) (result : Status) → IsFirstBad input line cause
    → Reports line cause sink result → Plays summary input sink left left result
reports summary input line cause sink left status.BadSchedule bad reported = (line, cause, bad, reported, refl)
reports summary input line cause sink left status.WriteFault bad reported =
    (reported.0, (bad_line_text line cause, inr (line, cause, bad, refl), reported.1), refl)
reports summary input line cause sink left (status.Memory want) bad reported = (inl reported, refl)
reports summary input line cause sink left (status.DiskFull full) bad reported = absurd reported
reports summary input line cause sink left (status.Unparsed refused) bad reported = absurd reported
reports summary input line cause sink left status.Done bad reported = absurd reported
reports summary input line cause sink left status.BadWords bad reported = absurd reported
reports summary input line cause sink left status.ReadFault bad reported = absurd reported
reports summary input line cause sink left status.TooLong bad reported = absurd reported

-- what comes of an input that was read whole is how a run that reads ends
pub ends_read : (summary : Bool) (input : List ℕ) (source : Fed) (sink : Sunk) (old new : Left) (result : Status) → Reads source input
    → Plays summary input sink old new result → EndsRead summary source sink old new result
ends_read summary input source sink old new status.Done reads plays = (input, reads, plays)
ends_read summary input source sink old new status.BadSchedule reads plays = (input, reads, plays)
ends_read summary input source sink old new status.WriteFault reads plays = (input, reads, plays)
ends_read summary input source sink old new (status.Memory want) reads plays = inr (input, reads, plays)
ends_read summary input source sink old new (status.DiskFull full) reads plays = (input, reads, plays)
ends_read summary input source sink old new (status.Unparsed refused) reads plays = absurd plays
ends_read summary input source sink old new status.BadWords reads plays = absurd plays
ends_read summary input source sink old new status.ReadFault reads plays = absurd plays
ends_read summary input source sink old new status.TooLong reads plays = absurd plays

words_are_good : (summary : Bool) (generation : Option Generation) (source : Fed) (sink : Sunk) (old new : Left)
    → EndsBy summary generation source sink old new status.BadWords → ⊥
words_are_good summary None source sink old new ends = ends
words_are_good summary (Some g) source sink old new ends = ends.1

words_were_read : (summary : Bool) (generation : Option Generation) (source : Fed) (sink : Sunk) (old new : Left) (refused : Unparsed)
    → EndsBy summary generation source sink old new (status.Unparsed refused) → ⊥
words_were_read summary None source sink old new refused ends = ends
words_were_read summary (Some g) source sink old new refused ends = ends.1

-- what comes of what is asked is how the program ends
pub ends : (words : List (List ℕ)) (ask : Ask) (source : Fed) (sink : Sunk) (old new : Left) (result : Status) → asked words ≡ Some ask
    → EndsBy ask.summary ask.generation source sink old new result → Ends words source sink old new result
ends words ask source sink old new status.Done is by = (ask, is, by)
ends words ask source sink old new status.BadSchedule is by = (ask, is, by)
ends words ask source sink old new status.ReadFault is by = (ask, is, by)
ends words ask source sink old new status.WriteFault is by = (ask, is, by)
ends words ask source sink old new status.TooLong is by = (ask, is, by)
ends words ask source sink old new (status.Memory want) is by = inr (ask, is, by)
ends words ask source sink old new (status.DiskFull full) is by = (ask, is, by)
ends words ask source sink old new (status.Unparsed refused) is by = absurd (words_were_read ask.summary ask.generation source sink old new refused by)
ends words ask source sink old new status.BadWords is by = absurd (words_are_good ask.summary ask.generation source sink old new by)
