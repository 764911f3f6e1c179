-- What comes of the events of a site, and of a bad line.
use Rattle.std.specs.Prelude.{◌≡◌, ℕ, Bool, true, false, List, [], ◌++◌, map, length, codes}
use Rattle.std.specs.Fmt.{decimal}
use Rattle.std.specs.Io.KnownBytes.{Appends}
use Rattle.nqs_types.specs.declared.world.WorldEvent.{WorldEvent}
use Rattle.nqs_outside.specs.Streams.{Sunk, SinkFailed}
use Rattle.nqs_disk.specs.declared.mem_disk.MemDisk.{MemDisk}
use Rattle.nqs_rules.specs.Net.{table}
use Rattle.nqs_rules.specs.World.{Ran, seen_of, World as Network}
use Rattle.nqs_rules.specs.Run.{run_of, states_of}
use Rattle.nqs_rules.specs.Transcript.{transcript}
use Rattle.nqs_store.specs.declared.disks.Disks.{Disks}
use Rattle.nqs_schedule.specs.declared.cause.Cause.{Cause}
use Rattle.nqs_schedule.specs.declared.cause.Cause.TheVariants as cause
use Rattle.nqs_schedule.specs.Summary.{nothing_seen, summary_of, summary_text}
use Rattle.nqs_language_acts.specs.Acts.{act_of}
use Rattle.nqs_net.specs.Left.{AreLeft}
use Rattle.nqs_network_runs.specs.declared.status.Status.{Status}
use Rattle.nqs_network_runs.specs.declared.status.Status.TheVariants as status
use Rattle.nqs_network_runs.specs.Fronts.{WritesFront}

-- the run of a new network of these hosts
abbrev pub ran : List (List ℕ) → List WorldEvent → Ran
ran site events = run_of site (map act_of events)

-- how many requests the table has after the last event
abbrev pub table_length : Network → ℕ
table_length network = length (table (states_of network))

-- the summary of a run of so many events
abbrev pub summary_after : ℕ → Ran → List ℕ
summary_after events r = summary_text (summary_of nothing_seen (seen_of r)) events (table_length r.world)

-- what is to be written of a run: its transcript, or its summary
abbrev pub text_of : Bool → List (List ℕ) → List WorldEvent → List ℕ
text_of false site events = transcript site (seen_of (ran site events))
text_of true site events = summary_after (length events) (ran site events)

-- the disks gain those of the hosts, as the run leaves them
abbrev pub AddsDisks : Network → List (Disks MemDisk) → List (Disks MemDisk) → Type 0
AddsDisks network old new = (disks : List (Disks MemDisk)) × (new ≡ old ++ disks) × AreLeft disks network.hosts

-- the whole text of a run was written, or a front of it
abbrev pub Runs : Bool → List (List ℕ) → List WorldEvent → Sunk → List (Disks MemDisk) → List (Disks MemDisk) → Status → Type 0
Runs summary site events sink old new status.Done = Appends sink.taken sink.taken_now (text_of summary site events) × AddsDisks (ran site events).world old new
Runs summary site events sink old new status.WriteFault = SinkFailed sink × WritesFront sink (text_of summary site events) × (new ≡ old)
Runs summary site events sink old new (status.Memory want) = WritesFront sink (text_of summary site events) × (new ≡ old)
Runs summary site events sink old new (status.DiskFull full) = WritesFront sink (text_of summary site events) × (new ≡ old)
Runs summary site events sink old new status.BadSchedule = ⊥
Runs summary site events sink old new status.BadWords = ⊥
Runs summary site events sink old new status.ReadFault = ⊥
Runs summary site events sink old new status.TooLong = ⊥
Runs summary site events sink old new (status.Unparsed refused) = ⊥

-- why a line is bad, in words
abbrev pub cause_text : Cause → List ℕ
cause_text cause.Unended = codes "unended"
cause_text cause.UnknownWord = codes "unknown word"
cause_text cause.MissingWord = codes "missing word"
cause_text cause.ExtraWord = codes "extra word"
cause_text cause.BadName = codes "bad name"
cause_text cause.BadNumber = codes "bad number"
cause_text cause.BadQuote = codes "bad quote"
cause_text cause.BadRequest = codes "bad request"
cause_text cause.NoSuchHost = codes "no such host"
cause_text cause.LateHosts = codes "hosts line too late"
cause_text cause.HostTwice = codes "host named twice"
cause_text cause.TooManyHosts = codes "too many hosts"
cause_text cause.OutputTooLong = codes "output too long"

-- the text that names a bad line by its number, and says why
abbrev pub bad_line_text : ℕ → Cause → List ℕ
bad_line_text number why = codes "bad line " ++ decimal number ++ codes ": " ++ cause_text why ++ codes "\n"

-- the line that names a bad line was written, or a front of it
abbrev pub Reports : ℕ → Cause → Sunk → Status → Type 0
Reports line why sink status.BadSchedule = Appends sink.taken sink.taken_now (bad_line_text line why)
Reports line why sink status.WriteFault = SinkFailed sink × WritesFront sink (bad_line_text line why)
Reports line why sink (status.Memory want) = Appends sink.taken sink.taken_now []
Reports line why sink status.Done = ⊥
Reports line why sink status.BadWords = ⊥
Reports line why sink status.ReadFault = ⊥
Reports line why sink status.TooLong = ⊥
Reports line why sink (status.DiskFull full) = ⊥
Reports line why sink (status.Unparsed refused) = ⊥
