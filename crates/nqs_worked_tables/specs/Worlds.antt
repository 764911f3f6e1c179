-- Hosts of a world with fuses, packets on their way, and runs whose calls of disks are counted.
use Rattle.std.specs.Prelude.{ℕ, Bool, List, [], ◌∷◌, map, length, codes, Option, None, Some}
use Rattle.nqs_rules.specs.Notes.{sights}
use Rattle.nqs_rules.specs.World.{World, Host, Act, Asks, Ends, Fails, Writes, Leaves, Ticks, Finishes, Fuse, Crashes, Boots, Fuses, Calls, Fate, fate}
use Rattle.nqs_rules.specs.World.{new_world, new_host}
use Rattle.nqs_rules.specs.Run.{run, run_of}
use Rattle.nqs_worked.specs.ScheduleWords.{host, request, job_of, submission, edits, one_host, two_hosts}
use Rattle.nqs_base.specs.declared.tear.Tear.{Tear}
use Rattle.nqs_base.specs.declared.tear.Tear.TheVariants.{Old, New}
use Rattle.nqs_types.specs.declared.world.Which.TheVariants.{First}
use Rattle.nqs_types.specs.declared.world.Seen.{Seen}
use Rattle.nqs_types.specs.declared.message.Message.{Message}
use Rattle.nqs_types.specs.declared.message.Body.TheVariants as body
use Rattle.nqs_types.specs.declared.edit.Edit.TheVariants.{Conf}
use Rattle.nqs_types.specs.declared.edit.ConfEdit.TheVariants.{StartQueue}

-- so many writes and syncs of the journal and of the spool
abbrev pub calls : ℕ → ℕ → Calls
calls first spool = record { root = 0; first = first; second = 0; spool = spool }

-- the calls of each host at the end of a run
abbrev pub calls_after : List (List ℕ) → List Act → List Calls
calls_after site acts = map (λ h. h.calls) (run_of site acts).world.hosts

-- how many requests each state had that the disks of the first host told before, the last state
-- first
abbrev pub told_after : List Act → List (List ℕ)
told_after acts = map (λ h. map (λ s. length s.rows) h.told) (run_of one_host acts).world.hosts

-- fuses of the journal and of the spool
abbrev pub fuses : Option ℕ → Option ℕ → Fuses
fuses first spool = record { root = None; first = first; second = None; spool = spool }

-- a host with such fuses and such a tear
abbrev pub fused_with : Option ℕ → Option ℕ → Tear → Host
fused_with first spool tear = record (new_host one_host 0) { fuses = fuses first spool; tear = tear }

-- how a change ends that stores one part, by the call of the journal that is fused
abbrev pub journal_fates : Tear → List Fate
journal_fates tear = map (λ k. fate (codes "date" ∷ []) (fused_with (Some k) None tear)) (1 ∷ 2 ∷ 3 ∷ 4 ∷ 5 ∷ [])

-- and by the call of the spool, where the journal would keep it
abbrev pub spool_fates : List (List ℕ) → List Fate
spool_fates puts = map (λ k. fate puts (fused_with None (Some k) New)) (1 ∷ 2 ∷ 3 ∷ 4 ∷ 5 ∷ [])

-- a fuse of each disk
abbrev pub first_fuses : Fuses
first_fuses = record { root = Some 11; first = Some 12; second = Some 13; spool = Some 14 }

-- a submission of the first host to its batch queue, with this script
abbrev pub with_script : List ℕ → Act
with_script script = Asks (host 0) (codes "ann") (submission None (job_of (codes "ann")) script)

-- the batch queue is started, a request is launched there, and then come these events
abbrev pub at_batch : List Act → List Act
at_batch acts = edits (Conf (StartQueue (codes "batch"))) ∷ with_script [] ∷ acts

-- a datagram from a host to a host
abbrev pub sent : ℕ → ℕ → ℕ → Message
sent from to number = record { from = host from; to = host to; body = body.Ready number }

-- a world of three hosts in which these were sent
abbrev pub mail : World
mail = record (new_world (codes "alpha" ∷ codes "beta" ∷ codes "gamma" ∷ [])) { packets = sent 0 1 1 ∷ sent 1 2 2 ∷ sent 1 0 3 ∷ sent 2 0 4 ∷ sent 1 1 5 ∷ [] }

-- what is seen of these events in a new world of two hosts
abbrev pub seen_of : List Act → List Seen
seen_of acts = sights (run acts (new_world two_hosts)).notes

-- whether each host is up at the end of a run
abbrev pub up_after : List Act → List Bool
up_after acts = map (λ h. h.up) (run acts (new_world two_hosts)).world.hosts

-- the fuses of each host after these events
abbrev pub fuses_after : List Act → List Fuses
fuses_after acts = map (λ h. h.fuses) (run acts (new_world two_hosts)).world.hosts

-- the tear of each host after these events
abbrev pub tears_after : List Act → List Tear
tears_after acts = map (λ h. h.tear) (run acts (new_world two_hosts)).world.hosts

-- all events of a third host in a world of two
abbrev pub elsewhere : List Act
elsewhere =
    Asks (host 2) (codes "ann") (submission None (job_of (codes "ann")) []) ∷ Ends (host 2) (request 1 0) 1 0 [] [] ∷ Finishes (host 2)
    ∷ Fails (host 2) (request 1 0) 1 ∷ Writes (host 2) 1 ∷ Leaves (host 2) 1
    ∷ Ticks (host 2) ∷ Fuse (host 2) First 1 Old ∷ Crashes (host 2) ∷ Boots (host 2) ∷ []
