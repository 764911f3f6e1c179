-- How a run of the program ends, by its status: what was read, what was written, and which disks
-- are left.
use Rattle.std.specs.Prelude.{◌≡◌, ℕ, ◌≤◌, ◌⊎◌, Bool, List, [], length, Option, Some, None}
use Rattle.std.specs.Io.KnownBytes.{Appends}
use Rattle.nqs_outside.specs.Causes.{Rose}
use Rattle.nqs_outside.specs.Streams.{Fed, IsUnread, ReadsWhole, ReadsTooMuch, Sunk, SinkFailed}
use Rattle.nqs_disk.specs.declared.mem_disk.MemDisk.{MemDisk}
use Rattle.nqs_store.specs.declared.disks.Disks.{Disks}
use Rattle.nqs_schedule.specs.declared.cause.Cause.{Cause}
use Rattle.nqs_schedule.specs.Schedule.{State, IsSchedule, IsFirstBad}
use Rattle.nqs_schedule.specs.Generated.{generated, generated_site}
use Rattle.nqs_network_runs.specs.declared.status.Status.{Status}
use Rattle.nqs_network_runs.specs.declared.status.Status.TheVariants as status
use Rattle.nqs_network_runs.specs.declared.words.Generation.{Generation}
use Rattle.nqs_network_runs.specs.declared.words.Ask.{Ask}
use Rattle.nqs_network_runs.specs.Words.{asked}
use Rattle.nqs_network_runs.specs.Fronts.{WritesFront}
use Rattle.nqs_network_runs.specs.Running.{text_of, bad_line_text, AddsDisks, Runs, ran}

-- the disks that the hosts of runs have left
abbrev pub Left : Type 0
Left = List (Disks MemDisk)

-- the text that is to be written for an input: that of its run, or the line that names its first
-- bad line
abbrev pub IsTextOf : Bool → List ℕ → List ℕ → Type 0
IsTextOf summary input text =
    ((state : State) × IsSchedule input state × (text ≡ text_of summary state.site state.events))
    ⊎ ((number : ℕ) × (cause : Cause) × IsFirstBad input number cause × (text ≡ bad_line_text number cause))

-- a front of the input's text was written
abbrev pub WritesFrontOf : Bool → List ℕ → Sunk → Type 0
WritesFrontOf summary input sink = (text : List ℕ) × IsTextOf summary input text × WritesFront sink text

-- nothing was written
abbrev pub WritesNothing : Sunk → Type 0
WritesNothing sink = Appends sink.taken sink.taken_now []

-- what comes of an input that was read whole
abbrev pub Plays : Bool → List ℕ → Sunk → Left → Left → Status → Type 0
Plays summary input sink old new status.Done = (state : State) × IsSchedule input state
    × Appends sink.taken sink.taken_now (text_of summary state.site state.events) × AddsDisks (ran state.site state.events).world old new
Plays summary input sink old new status.BadSchedule = (number : ℕ) × (cause : Cause) × IsFirstBad input number cause
    × Appends sink.taken sink.taken_now (bad_line_text number cause) × (new ≡ old)
Plays summary input sink old new status.WriteFault = SinkFailed sink × WritesFrontOf summary input sink × (new ≡ old)
Plays summary input sink old new (status.Memory want) = (WritesNothing sink ⊎ WritesFrontOf summary input sink) × (new ≡ old)
Plays summary input sink old new (status.DiskFull full) = WritesFrontOf summary input sink × (new ≡ old)
Plays summary input sink old new status.BadWords = ⊥
Plays summary input sink old new status.ReadFault = ⊥
Plays summary input sink old new status.TooLong = ⊥
Plays summary input sink old new (status.Unparsed refused) = ⊥

-- the source was read to its end, and this is what it gave
abbrev pub Reads : Fed → List ℕ → Type 0
Reads source input = ReadsWhole 16777216 source input

-- nothing was written, and no disk was added
abbrev pub IsUntouched : Sunk → Left → Left → Type 0
IsUntouched sink old new = WritesNothing sink × (new ≡ old)

-- how a run of the schedule that the source gives ends
abbrev pub EndsRead : Bool → Fed → Sunk → Left → Left → Status → Type 0
EndsRead summary source sink old new status.ReadFault = Rose source.faults source.faults_now × IsUntouched sink old new
EndsRead summary source sink old new status.TooLong = ReadsTooMuch 16777216 source × IsUntouched sink old new
EndsRead summary source sink old new status.Done = (input : List ℕ) × Reads source input × Plays summary input sink old new status.Done
EndsRead summary source sink old new status.BadSchedule = (input : List ℕ) × Reads source input × Plays summary input sink old new status.BadSchedule
EndsRead summary source sink old new status.WriteFault = (input : List ℕ) × Reads source input × Plays summary input sink old new status.WriteFault
EndsRead summary source sink old new (status.Memory want) = IsUntouched sink old new
    ⊎ ((input : List ℕ) × Reads source input × Plays summary input sink old new (status.Memory want))
EndsRead summary source sink old new (status.DiskFull full) = (input : List ℕ) × Reads source input × Plays summary input sink old new (status.DiskFull full)
EndsRead summary source sink old new status.BadWords = ⊥
EndsRead summary source sink old new (status.Unparsed refused) = ⊥

-- how a run of a generated schedule ends; the source is left unread
abbrev pub EndsGenerated : Bool → Generation → Fed → Sunk → Left → Left → Status → Type 0
EndsGenerated summary g source sink old new result = IsUnread source × Runs summary (generated_site g.hosts)
    (generated g.seed g.hosts g.events) sink old new result

-- by what is asked
abbrev pub EndsBy : Bool → Option Generation → Fed → Sunk → Left → Left → Status → Type 0
EndsBy summary None source sink old new result = EndsRead summary source sink old new result
EndsBy summary (Some g) source sink old new result = EndsGenerated summary g source sink old new result

-- the words ask for something, and so it ends
abbrev pub EndsAsked : List (List ℕ) → Fed → Sunk → Left → Left → Status → Type 0
EndsAsked words source sink old new result = (ask : Ask) × (asked words ≡ Some ask) × EndsBy ask.summary ask.generation source sink old new result

-- how the program ends, with what it has read and written
abbrev pub Ends : List (List ℕ) → Fed → Sunk → Left → Left → Status → Type 0
Ends words source sink old new status.BadWords = (asked words ≡ None) × IsUnread source × IsUntouched sink old new
Ends words source sink old new (status.Unparsed refused) = IsUnread source × IsUntouched sink old new
Ends words source sink old new (status.Memory want) = (IsUnread source × IsUntouched sink old new) ⊎ EndsAsked words source sink old new (status.Memory want)
Ends words source sink old new (status.DiskFull full) = EndsAsked words source sink old new (status.DiskFull full)
Ends words source sink old new status.Done = EndsAsked words source sink old new status.Done
Ends words source sink old new status.BadSchedule = EndsAsked words source sink old new status.BadSchedule
Ends words source sink old new status.ReadFault = EndsAsked words source sink old new status.ReadFault
Ends words source sink old new status.WriteFault = EndsAsked words source sink old new status.WriteFault
Ends words source sink old new status.TooLong = EndsAsked words source sink old new status.TooLong

-- a schedule that isn't too long is there, and the source did not fail
abbrev pub IsReadable : Fed → Type 0
IsReadable source = (input : List ℕ) × (state : State) × (source.left ≡ Some input) × (length input ≤ 16777216) × IsSchedule input state
    × (Rose source.faults source.faults_now → ⊥)

-- there is a schedule: that of a seed, or one that can be read
abbrev pub HasSchedule : Option Generation → Fed → Type 0
HasSchedule None source = IsReadable source
HasSchedule (Some g) source = Unit {0}

-- memory ran out, or a disk of a host would have had too many bytes
abbrev pub IsLacking : Status → Type 0
IsLacking (status.Memory want) = Unit {0}
IsLacking (status.DiskFull full) = Unit {0}
IsLacking (status.Unparsed refused) = Unit {0}
IsLacking status.Done = ⊥
IsLacking status.BadWords = ⊥
IsLacking status.BadSchedule = ⊥
IsLacking status.ReadFault = ⊥
IsLacking status.WriteFault = ⊥
IsLacking status.TooLong = ⊥

-- with words in form, a schedule, and no fault, the program is done, or something was lacking
abbrev pub IsComplete : List (List ℕ) → Fed → Sunk → Status → Type 0
IsComplete words source sink result =
    (ask : Ask) → asked words ≡ Some ask → HasSchedule ask.generation source → (SinkFailed sink → ⊥) → (result ≡ status.Done) ⊎ IsLacking result
