-- What the two parts of a commit leave: a checkpoint, and the calls of the change.
use Rattle.std.specs.Prelude.{◌≡◌, ◌⊎◌, ℕ, ◌<◌, ◌≤◌, Bool, List, length, Ok}
use Rattle.nqs_state.specs.State.{Plain}
use Rattle.nqs_types.specs.declared.world.Which.{Which}
use Rattle.nqs_types.specs.declared.world.Which.TheVariants.{Root, Spool}
use Rattle.nqs_outside.specs.History.{History, moment}
use Rattle.nqs_outside.specs.declared.disk.Disk as disk
use Rattle.nqs_rules.specs.World.{spool_calls}
use Rattle.nqs_snapshot.specs.Reading.{snapshot_of}
use Rattle.nqs_store.specs.Active.{Active, journal_of, other_of}
use Rattle.nqs_store.specs.Commits.{AreClear, FailsFirst, HasOneMore, LeavesHost, IsAtHostGate, IsCutAtOther, IsCutAtRoot}
use Rattle.nqs_store.specs.Hosts.{HostCall, Runs}
use Rattle.nqs_store.specs.Images.{IsTold, TellsOneOf}
use Rattle.nqs_store.specs.Moments.{Moments}
use Rattle.nqs_store.specs.Plan.{checkpoint_calls, change_calls}
use Rattle.nqs_store.specs.Stores.{Tells, history_of, active_of, plain_of}
use Rattle.nqs_store.specs.Told.{Host}
use Rattle.nqs_store.specs.declared.store.Store.{Store}

module _ {D : Type 0} {g : disk.Ghosts D} (Stands : List HostCall → List HostCall → Type 0) (old now : Store D g) where
  -- The calls of a checkpoint were made, as far as it says. At each moment of them the images tell
  -- the state.
  pub record Turning (snapshot : List ℕ) (host : Host) : Type 0 where
    pub run : List HostCall
    pub stands : Stands (checkpoint_calls (active_of old) snapshot) run
    pub made : Runs (history_of old) (history_of now) run
    pub at : snapshot_of snapshot ≡ Ok host → Tells old host → Moments (history_of old) run (λ images. IsTold images (plain_of old host))

  -- The calls of a change were made, as far as it says. At each moment of them the images tell the
  -- state before or the one after; and where all were made, the journal has one record more.
  pub record Changing (puts : List (List ℕ)) (host : Host) (later : Plain) : Type 0 where
    pub places : List ℕ
    pub gate : ℕ
    pub payload : List ℕ
    pub run : List HostCall
    pub many : length places ≡ length puts
    pub stands : Stands (change_calls (active_of old) places puts gate payload) run
    pub made : Runs (history_of old) (history_of now) run
    pub at : Tells old host → Moments (history_of old) run (TellsOneOf (plain_of old host) later)
    pub one_more : Tells old host → run ≡ change_calls (active_of old) places puts gate payload
        → HasOneMore (history_of old (journal_of (active_of old))) (history_of now (journal_of (active_of old)))

-- none of a checkpoint's calls was to fail
pub record IsTurned (a : Active) (fails : Which → ℕ → Bool) (old : Which → History) : Type 0 where
  pub other : AreClear (fails (other_of a)) (moment (old (other_of a))) 2
  pub root : AreClear (fails Root) (moment (old Root)) 2

module _ (a : Active) (fails : Which → ℕ → Bool) (old now : Which → History) (before : Plain) where
  -- a call of this disk cut a checkpoint off
  abbrev pub IsTurnCut : Which → Type 0
  IsTurnCut which = ((which ≡ other_of a) × IsCutAtOther a fails old now before) ⊎ ((which ≡ Root) × IsCutAtRoot a fails old now before)

module _ (a : Active) (fails : Which → ℕ → Bool) (puts : List (List ℕ)) (old now : Which → History) (before after : Plain) where
  -- a call of the spool failed
  pub record CutSpool : Type 0 where
    pub at : ℕ
    pub failed : FailsFirst (fails Spool) (moment (old Spool)) (spool_calls puts) at
    pub root : now Root ≡ old Root
    pub told : LeavesHost now before a

  -- a call of the journal failed
  pub record CutRecord : Type 0 where
    pub spool : AreClear (fails Spool) (moment (old Spool)) (spool_calls puts)
    pub at : ℕ
    pub failed : FailsFirst (fails (journal_of a)) (moment (old (journal_of a))) 4 at
    pub root : now Root ≡ old Root
    pub told : at < 2 → LeavesHost now before a
    pub gate : 2 ≤ at → IsAtHostGate a now before after

  -- a call of this disk cut a change off
  abbrev pub IsChangeCut : Which → Type 0
  IsChangeCut which = ((which ≡ Spool) × CutSpool) ⊎ ((which ≡ journal_of a) × CutRecord)
