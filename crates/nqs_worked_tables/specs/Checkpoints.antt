-- Hosts with two journals: how a change ends there, and what it leaves.
use Rattle.std.specs.Prelude.{ℕ, List, [], ◌∷◌, map, flat_map, length, codes}
use Rattle.nqs_rules.specs.Notes.{ByStart}
use Rattle.nqs_rules.specs.World.{Host, Fuses, Calls, Fate, fate, fused, no_fuses, makes_change, new_host, new_world}
use Rattle.nqs_worked.specs.ScheduleWords.{host, job_of, one_host}
use Rattle.nqs_base.specs.declared.tear.Tear.{Tear}
use Rattle.nqs_base.specs.declared.tear.Tear.TheVariants.{Old, New, Mixed}
use Rattle.nqs_types.specs.declared.world.Which.{Which}
use Rattle.nqs_types.specs.declared.change.Change.TheVariants.{Submitted}

-- a host whose root is this, and whose active journal has so many records, with these fuses and
-- this tear
abbrev pub journaled : List ℕ → ℕ → Fuses → Tear → Host
journaled root records fuses tear = record (new_host one_host 0) { tear = tear; fuses = fuses; root = root; records = records }

-- one disk has a fuse
abbrev pub only : Which → ℕ → Fuses
only disk calls = fused disk calls no_fuses

-- how a change ends that stores one part, by the call of a disk that is fused
abbrev pub fates_at : List ℕ → ℕ → Tear → Which → List Fate
fates_at root records tear disk =
    map (λ k. fate (codes "date" ∷ []) (journaled root records (only disk k) tear)) (1 ∷ 2 ∷ 3 ∷ 4 ∷ 5 ∷ 6 ∷ 7 ∷ [])

-- the host after a submission with a script, of which nothing goes out
abbrev pub submitted : Host → List Host
submitted h =
    (makes_change (host 0) h ByStart (Submitted (codes "batch") (job_of (codes "ann")) (codes "date")) [] []
    (record (new_world one_host) { hosts = h ∷ [] })).world.hosts

-- the root, the number of records and the number of requests that it has then
abbrev pub left : Host → List (List ℕ × ℕ × ℕ)
left h = map (λ g. (g.root, g.records, length g.state.rows)) (submitted h)

-- and its calls
abbrev pub calls_left : Host → List Calls
calls_left h = map (λ g. g.calls) (submitted h)

-- all old, all new, and a mix for each number below 4
abbrev pub six_tears : List Tear
six_tears = Old ∷ New ∷ Mixed 0 ∷ Mixed 1 ∷ Mixed 2 ∷ Mixed 3 ∷ []

-- what a fuse at a call of a disk leaves, by tear, where a checkpoint is due
abbrev pub due_left : List ℕ → Which → ℕ → List (List ℕ × ℕ × ℕ)
due_left root disk calls = flat_map (λ tear. left (journaled root 4096 (only disk calls) tear)) six_tears
