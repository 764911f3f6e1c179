-- What a run has written, by the way it ended.
use Rattle.std.specs.Prelude.{◌≡◌, ℕ, true, List, [], ◌∷◌, ◌++◌, Ok, Err}
use Rattle.std.specs.declared.option.Option.{Option}
use Rattle.std.specs.declared.result.Result.{Result}
use Rattle.std.specs.List.{list_all}
use Rattle.std.specs.Io.KnownBytes.{Appends}
use Rattle.nqs_types.specs.declared.world.Seen.{Seen}
use Rattle.nqs_types.specs.declared.world.WorldEvent.{WorldEvent}
use Rattle.nqs_outside.specs.Streams.{Sunk, SinkFailed}
use Rattle.nqs_disk.specs.declared.lack.Lack.{Lack}
use Rattle.nqs_disk.specs.declared.lack.Lack.TheVariants as lack
use Rattle.nqs_rules.specs.World.{World as Network, seen_of}
use Rattle.nqs_rules.specs.Transcript.{transcript}
use Rattle.nqs_laws.specs.Sane.{IsSite}
use Rattle.nqs_language_acts.specs.Acts.{is_sane_line}
use Rattle.nqs_net.specs.Worlds.{IsWorld}
use Rattle.nqs_net.specs.declared.world.World.{World}
use Rattle.nqs_network_runs.specs.declared.run.RunStop.{RunStop}
use Rattle.nqs_network_runs.specs.declared.run.RunStop.TheVariants as stop
use Rattle.nqs_network_runs.specs.Fronts.{WritesFront}
use Rattle.nqs_network_runs.specs.Running.{ran}

-- the world stands for the network after these events, which are within their limits, on a site of
-- 1 to 16 hosts
abbrev pub HasRun : List (List ℕ) → List WorldEvent → World → Type 0
HasRun site before world = IsSite site × (list_all is_sane_line before ≡ true) × IsWorld world (ran site before).world

-- the world after one event more, and what was seen of it
abbrev pub GoesOn : List (List ℕ) → List WorldEvent → WorldEvent → World → List Seen → Type 0
GoesOn site before event world seen =
    IsWorld world (ran site (before ++ event ∷ [])).world × (seen_of (ran site (before ++ event ∷ [])) ≡ seen_of (ran site before) ++ seen)

-- the same, and what it adds to the transcript
abbrev pub Tells : List (List ℕ) → List WorldEvent → WorldEvent → World → List ℕ → Type 0
Tells site before event world text =
    IsWorld world (ran site (before ++ event ∷ [])).world
    × (transcript site (seen_of (ran site (before ++ event ∷ []))) ≡ transcript site (seen_of (ran site before)) ++ text)

-- the same, where the text had something before
abbrev pub TellsMore : List (List ℕ) → List WorldEvent → WorldEvent → World → (old new : List ℕ) → Type 0
TellsMore site before event world old new = (more : List ℕ) × (new ≡ old ++ more) × Tells site before event world more

-- a sink has taken all of a text but the rest of it
abbrev pub HasWritten : Option (List ℕ) → Option (List ℕ) → (text rest : List ℕ) → Type 0
HasWritten old new text rest = (front : List ℕ) × (text ≡ front ++ rest) × Appends old new front

-- what a network lacked is why its run was not brought to its end
abbrev pub stop_of : Lack → RunStop
stop_of (lack.Memory want) = stop.Memory want
stop_of (lack.Full full) = stop.Full full

-- the whole text was written, and the world stands for the network; or a front of the text was
-- written
abbrev pub Writes : List ℕ → Network → Sunk → Result World RunStop → Type 0
Writes text network sink (Ok world) = Appends sink.taken sink.taken_now text × IsWorld world network
Writes text network sink (Err stop.Sink) = SinkFailed sink × WritesFront sink text
Writes text network sink (Err (stop.Memory want)) = WritesFront sink text
Writes text network sink (Err (stop.Full full)) = WritesFront sink text
