-- The calls that a commit makes.
use Rattle.std.specs.Prelude.{◌≡◌, ℕ, not, if◌then◌else◌, length, List, [], ◌∷◌, ◌++◌}
use Rattle.nqs_types.specs.declared.world.Which.TheVariants.{Root, Spool}
use Rattle.nqs_outside.specs.History.{Call}
use Rattle.nqs_journal.specs.Plan.{append_calls, begin_calls, front_calls}
use Rattle.nqs_journal.specs.Text.{snapshot_front}
use Rattle.nqs_rules.specs.Journals.{is_due, byte_of}
use Rattle.nqs_spool.specs.Puts.{put_calls}
use Rattle.nqs_outside.specs.History.{History}
use Rattle.nqs_types.specs.declared.world.Which.{Which}
use Rattle.nqs_store.specs.Active.{Active, journal_of, other_of, ready}
use Rattle.nqs_store.specs.Hosts.{HostCall, Runs, on}

-- each list of bytes at its place, one after the other
abbrev pub puts_calls : List ℕ → List (List ℕ) → List Call
puts_calls [] puts = []
puts_calls (place ∷ places) [] = []
puts_calls (place ∷ places) (put ∷ puts) = put_calls place put ++ puts_calls places puts

-- A checkpoint: the other journal's text, which begins with the snapshot, and then the root's byte,
-- which names that journal.
abbrev pub checkpoint_calls : Active → List ℕ → List HostCall
checkpoint_calls a snapshot = on (other_of a) (front_calls (snapshot_front snapshot)) ++ on Root (begin_calls (byte_of (not a.second) ∷ []))

-- the same, where one is due, and else none
abbrev pub due_calls : Active → List ℕ → List HostCall
due_calls a snapshot = if is_due a.is_old a.records then checkpoint_calls a snapshot else []

-- the bytes go to the spool, and then the record to the active journal
abbrev pub change_calls : Active → List ℕ → List (List ℕ) → ℕ → List ℕ → List HostCall
change_calls a places puts gate payload = on Spool (puts_calls places puts) ++ on (journal_of a) (append_calls gate payload)

-- a checkpoint, where one is due, and then the calls of the change
abbrev pub commit_calls : Active → List ℕ → List ℕ → List (List ℕ) → ℕ → List ℕ → List HostCall
commit_calls a snapshot places puts gate payload = due_calls a snapshot ++ change_calls (ready a) places puts gate payload

-- Some run leads from what the disks did before to what they did now, and stands so to the calls of
-- a commit of these bytes.
pub record CommitsBy (Stands : List HostCall → List HostCall → Type 0) (a : Active) (puts : List (List ℕ)) (old now : Which → History) : Type 0 where
  pub snapshot : List ℕ
  pub places : List ℕ
  pub gate : ℕ
  pub payload : List ℕ
  pub run : List HostCall
  pub many : length places ≡ length puts
  pub stands : Stands (commit_calls a snapshot places puts gate payload) run
  pub made : Runs old now run
