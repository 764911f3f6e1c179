-- Runs of a host whose active journal is nearly full.
use Rattle.std.specs.Prelude.{ℕ, List, [], ◌∷◌, map, codes}
use Rattle.nqs_rules.specs.World.{World, Act, Calls, Fuse, Crashes, Boots, Shows, seen_of, new_host, new_world}
use Rattle.nqs_rules.specs.Run.{run}
use Rattle.nqs_rules.specs.Transcript.{transcript}
use Rattle.nqs_worked.specs.ScheduleWords.{host, edits, submits, one_host}
use Rattle.nqs_base.specs.declared.tear.Tear.{Tear}
use Rattle.nqs_base.specs.declared.tear.Tear.TheVariants.{Old, New}
use Rattle.nqs_types.specs.declared.world.Which.TheVariants.{Root, First, Second}
use Rattle.nqs_types.specs.declared.edit.Edit.TheVariants.{Conf}
use Rattle.nqs_types.specs.declared.edit.ConfEdit.TheVariants.{StartQueue}

-- a new world of one host, whose active journal has so many records already, by this root
abbrev pub nearly_full : List ℕ → ℕ → World
nearly_full root records = record (new_world one_host) { hosts = record (new_host one_host 0) { root = root; records = records } ∷ [] }

-- the transcript of a run from there
abbrev pub told_from : List ℕ → ℕ → List Act → List ℕ
told_from root records acts = transcript one_host (seen_of (run acts (nearly_full root records)))

-- the root, how many records the active journal has, and the calls of the disks at the end of it
abbrev pub journals_from : List ℕ → ℕ → List Act → List (List ℕ × ℕ × Calls)
journals_from root records acts = map (λ h. (h.root, h.records, h.calls)) (run acts (nearly_full root records)).world.hosts

-- A stop falls in the root's write of a checkpoint, the host boots, and then the disk of the
-- journal that was the active one is fused.
abbrev pub stop_at_the_root : Tear → List Act
stop_at_the_root tear =
    submits (codes "ann") (codes "batch")
    ∷ Fuse (host 0) Root 1 tear
    ∷ submits (codes "ann") (codes "batch")
    ∷ Boots (host 0)
    ∷ Fuse (host 0) First 1 Old
    ∷ submits (codes "bob") (codes "batch")
    ∷ Shows
    ∷ []

-- a boot is stopped in its checkpoint, and again: at a sync of the other journal, then at one of
-- the root
abbrev pub boot_stops_twice : Tear → Tear → List Act
boot_stops_twice first second =
    submits (codes "ann") (codes "batch")
    ∷ Crashes (host 0)
    ∷ Fuse (host 0) Second 2 first
    ∷ Boots (host 0)
    ∷ Fuse (host 0) Root 2 second
    ∷ Boots (host 0)
    ∷ Boots (host 0)
    ∷ Shows
    ∷ []

-- the start of a request begins with a checkpoint, in which a stop falls; what ran nowhere is
-- started behind the boot
abbrev pub start_turns_over : List Act
start_turns_over =
    edits (Conf (StartQueue (codes "batch")))
    ∷ Fuse (host 0) Root 2 New
    ∷ submits (codes "ann") (codes "batch")
    ∷ Boots (host 0)
    ∷ Shows
    ∷ []

-- The fuse of a journal that rests waits until a checkpoint comes to its disk, whose two calls it
-- outlasts, and the next record.
abbrev pub fuse_waits : List Act
fuse_waits =
    Fuse (host 0) First 7 New
    ∷ submits (codes "ann") (codes "batch")
    ∷ submits (codes "ann") (codes "batch")
    ∷ submits (codes "ann") (codes "batch")
    ∷ Boots (host 0)
    ∷ Shows
    ∷ []
