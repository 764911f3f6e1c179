-- Checkpoints: what they leave of a host, what a stop within one leaves, and what every host keeps.
use Rattle.std.specs.Prelude.{◌≡◌, ◌⊎◌, ℕ, ◌≤◌, Bool, true, false, ◌&&◌, ◌||◌, List, [], ◌∷◌, length, Some}
use Rattle.nqs_state.specs.State.{Plain}
use Rattle.nqs_types.specs.declared.ids.HostId.{HostId}
use Rattle.nqs_types.specs.declared.world.Which.{Which}
use Rattle.nqs_types.specs.declared.world.Seen.TheVariants as seen
use Rattle.nqs_rules.specs.Journals.{active, resting, is_due}
use Rattle.nqs_rules.specs.World.{Act, Fuse, no_fuses, no_calls}
use Rattle.nqs_rules.specs.World.{Host, World, Ran, falls_at_journal, falls_at_root, host_of, put_host, seeing, stopped}

-- a change of the host begins with a checkpoint, among whose calls a fuse falls
abbrev pub stops_in_checkpoint : Host → Bool
stops_in_checkpoint h = is_due h.is_old h.records && (falls_at_journal h || falls_at_root h)

-- Hosts that differ at most in their disks: in the root, in the number of records, in whether their
-- text is old, in the calls that were made, and in those left until a fuse.
abbrev pub DifferInDisks : Host → Host → Type 0
DifferInDisks g h = record h { fuses = g.fuses; calls = g.calls; root = g.root; records = g.records; is_old = g.is_old } ≡ g

-- The disks tell what they told before: by the journal that was active then, with all its records,
-- or by the one that was resting, to which a checkpoint went, which has no record and isn't old.
abbrev pub TellsAsBefore : Host → Host → Type 0
TellsAsBefore before h =
    ((active h.root ≡ active before.root) × (h.records ≡ before.records) × (h.is_old ≡ before.is_old))
    ⊎ ((active h.root ≡ resting before.root) × (h.records ≡ 0) × (h.is_old ≡ false))

-- The host is down with the state that it had, and its disks tell what they told. Nothing is noted
-- but the stop.
pub record StopsAsItWas (h : HostId) (before : Host) (w : World) (r : Ran) : Type 0 where
  pub left : Host
  pub tells : TellsAsBefore before left
  pub is : r ≡ seeing (seen.Stop h) (put_host h (stopped before.state left) w)

-- the host has this state, and the journal on this disk is active, with so many records, and isn't
-- old
pub record Records (h : HostId) (s : Plain) (journal : Which) (records : ℕ) (w : World) : Type 0 where
  pub host : Host
  pub there : host_of h w ≡ Some host
  pub state : host.state ≡ s
  pub journal_is : active host.root ≡ journal
  pub count : host.records ≡ records
  pub new : host.is_old ≡ false

-- a host without what its disks hold: with no fuse, no call made, an empty root and no record, and
-- not old
abbrev pub without_disks : Host → Host
without_disks h = record h { fuses = no_fuses; calls = no_calls; root = []; records = 0; is_old = false }

-- hosts without fuses that are the same but for their disks
pub record AreAlike (g h : Host) : Type 0 where
  pub same : without_disks g ≡ without_disks h
  pub fuses : g.fuses ≡ no_fuses
  pub others : h.fuses ≡ no_fuses

-- and such hosts one by one
abbrev pub AreEachAlike : List Host → List Host → Type 0
AreEachAlike [] [] = Unit {0}
AreEachAlike (g ∷ gs) (h ∷ hs) = AreAlike g h × AreEachAlike gs hs
AreEachAlike _ _ = ⊥

-- worlds without fuses that are the same but for the disks of their hosts
pub record AreWorldsAlike (w v : World) : Type 0 where
  pub hosts : AreEachAlike w.hosts v.hosts
  pub packets : w.packets ≡ v.packets
  pub now : w.now ≡ v.now

-- runs of which the same is noted, and so seen, and which come to such worlds
pub record AreRunsAlike (r q : Ran) : Type 0 where
  pub notes : r.notes ≡ q.notes
  pub world : AreWorldsAlike r.world q.world

-- an event that lays no fuse
abbrev pub lays_none : Act → Bool
lays_none (Fuse h disk calls tear) = false
lays_none act = true

-- a journal has 4,096 records at most and isn't old, and the root has one byte at most
pub record AreDisksSmall (h : Host) : Type 0 where
  pub records : h.records ≤ 4096
  pub new : h.is_old ≡ false
  pub root : length h.root ≤ 1
