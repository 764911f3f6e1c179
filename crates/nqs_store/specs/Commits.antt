-- What a commit leaves of a host's disks: the calls that it made, and where a stop cut it off.
use Rattle.std.specs.Prelude.{◌≡◌, ◌≢◌, ◌⊎◌, ℕ, ◌+◌, ◌<◌, ◌≤◌, true, false, Bool, IsTrue, not, if◌then◌else◌, List, [], ◌∷◌, ◌++◌, take}
use Rattle.nqs_state.specs.State.{Plain}
use Rattle.nqs_types.specs.declared.world.Which.{Which}
use Rattle.nqs_types.specs.declared.world.Which.TheVariants.{Root, First, Second, Spool}
use Rattle.nqs_outside.specs.History.{Call, History, extended, state, content, after, moment, IsImage}
use Rattle.nqs_journal.specs.Gate.{IsAtGate}
use Rattle.nqs_journal.specs.Either.{StandsBy}
use Rattle.nqs_journal.specs.Plan.{begin_calls}
use Rattle.nqs_rules.specs.Journals.{is_due, turned, byte_of}
use Rattle.nqs_rules.specs.World.{spool_calls}
use Rattle.nqs_store.specs.Active.{Active, IsActive, journal_of, other_of, ready, recorded, named_in}
use Rattle.nqs_store.specs.Hosts.{HostCall, StopsShort, EachPrefix, part}
use Rattle.nqs_store.specs.Images.{IsTold, TellsOneOf}
use Rattle.nqs_store.specs.Plan.{CommitsBy, due_calls, commit_calls}

-- so many calls from a moment on aren't to fail
abbrev pub AreClear : (ℕ → Bool) → ℕ → ℕ → Type 0
AreClear fails from count = (i : ℕ) → i < count → fails (from + i) ≡ false

-- of so many calls from a moment on, this is the first that is to fail
pub record FailsFirst (fails : ℕ → Bool) (from count i : ℕ) : Type 0 where
  pub within : i < count
  pub due : fails (from + i) ≡ true
  pub clear : AreClear fails from i

-- whatever images the disks may leave now, they have P
abbrev pub EachImage : (Which → History) → ((Which → List ℕ) → Type 0) → Type 0
EachImage now P = (images : Which → List ℕ) → ((which : Which) → IsImage (state (now which)) (images which)) → P images

-- the calls of a checkpoint, where one is due, weren't to fail
pub record IsPast (a : Active) (fails : Which → ℕ → Bool) (old : Which → History) : Type 0 where
  pub other : IsTrue (is_due a.is_old a.records) → AreClear (fails (other_of a)) (moment (old (other_of a))) 2
  pub root : IsTrue (is_due a.is_old a.records) → AreClear (fails Root) (moment (old Root)) 2

-- how many calls a checkpoint, where one is due, makes of the journal that it turns to
abbrev pub calls_before : Active → ℕ
calls_before a = if is_due a.is_old a.records then 2 else 0

-- of the journal that a change's record goes to, the moment of the first of its four calls
abbrev pub record_moment : Active → (Which → History) → ℕ
record_moment a old = moment (old (journal_of (ready a))) + calls_before a

-- the calls of the root that a checkpoint makes, where one is due
abbrev pub root_calls : Active → List Call
root_calls a = if is_due a.is_old a.records then begin_calls (byte_of (not a.second) ∷ []) else []

-- Just the calls of a commit of these bytes were made, and none of them was to fail.
pub record IsKept (a : Active) (fails : Which → ℕ → Bool) (puts : List (List ℕ)) (old now : Which → History) : Type 0 where
  pub calls : CommitsBy (λ planned run. run ≡ planned) a puts old now
  pub past : IsPast a fails old
  pub spool : AreClear (fails Spool) (moment (old Spool)) (spool_calls puts)
  pub journal : AreClear (fails (journal_of (ready a))) (record_moment a old) 4

-- the planned calls, or the first of them
abbrev pub IsBegun : List HostCall → List HostCall → Type 0
IsBegun planned run = (run ≡ planned) ⊎ StopsShort planned run

-- after these calls the disk has no write pending
abbrev pub IsSettled : (Which → History) → List HostCall → Which → Type 0
IsSettled old calls which = (after (state (old which)) (part which calls)).ranges ≡ []

-- A journal has one record more: each image that it might leave stood by one of the forms for some
-- payloads, and each that it may leave now stands for these and one more.
pub record HasOneMore (was now : History) : Type 0 where
  pub form : ℕ
  pub snapshot : List ℕ
  pub payloads : List (List ℕ)
  pub payload : List ℕ
  pub before : (image : List ℕ) → IsImage (state was) image → StandsBy image form snapshot payloads
  pub after : (image : List ℕ) → IsImage (state now) image → StandsBy image form snapshot (payloads ++ payload ∷ [])

-- what the journal that a change's record goes to did before that record: what it did before, and
-- the calls of a checkpoint
abbrev pub before_record : Active → List ℕ → (Which → History) → History
before_record a snapshot old = extended (old (journal_of (ready a))) (part (journal_of (ready a)) (due_calls a snapshot))

-- A change is kept, or was begun to be: the calls of its commit were made in their order over all
-- disks, or the first of them. At each moment of them whatever images the disks may leave tell the
-- state before the change or the one after it, and at most one of the disks has writes pending.
-- Where all were made, the journal has one record more.
pub record Keeping (a : Active) (puts : List (List ℕ)) (old now : Which → History) (before later : Plain) : Type 0 where
  pub calls : CommitsBy IsBegun a puts old now
  pub told : EachPrefix old calls.run (TellsOneOf before later)
  pub settled : (j : ℕ) (v w : Which) → v ≢ w → IsSettled old (take j calls.run) v ⊎ IsSettled old (take j calls.run) w
  pub one_more : calls.run ≡ commit_calls a calls.snapshot calls.places puts calls.gate calls.payload
      → HasOneMore (before_record a calls.snapshot old) (now (journal_of (ready a)))

-- Whatever images the disks may leave now tell the state, and this is the active journal.
abbrev pub LeavesHost : (Which → History) → Plain → Active → Type 0
LeavesHost now s a = EachImage now (λ images. IsTold images s × IsActive images a)

-- the images are among those that the disks may leave now, and this is that of one disk
abbrev pub AreImages : (Which → History) → (Which → List ℕ) → Which → List ℕ → Type 0
AreImages now images which image = ((other : Which) → IsImage (state (now other)) (images other)) × (images which ≡ image)

-- The active journal's gate decides which of two states is told. Nothing else is pending there.
pub record IsAtHostGate (a : Active) (now : Which → History) (before after : Plain) : Type 0 where
  pub gate : ℕ
  pub decides : IsAtGate (state (now (journal_of a))) gate
      (λ image. (images : Which → List ℕ) → AreImages now images (journal_of a) image → IsTold images before × IsActive images a)
      (λ image. (images : Which → List ℕ) → AreImages now images (journal_of a) image → IsTold images after × IsActive images (recorded a))

module _ (a : Active) (fails : Which → ℕ → Bool) (old now : Which → History) (before : Plain) where
  -- A call of a checkpoint failed, by which the other journal is written. The active one stays.
  pub record IsCutAtOther : Type 0 where
    pub at : ℕ
    pub failed : FailsFirst (fails (other_of a)) (moment (old (other_of a))) 2 at
    pub root : now Root ≡ old Root
    pub told : LeavesHost now before a

  -- A call of a checkpoint failed, by which the root is turned over. Only its first byte is
  -- pending, and whichever journal it names tells the state before the change.
  pub record IsCutAtRoot : Type 0 where
    pub other : AreClear (fails (other_of a)) (moment (old (other_of a))) 2
    pub at : ℕ
    pub failed : FailsFirst (fails Root) (moment (old Root)) 2 at
    pub pending : state (now Root) ≡ record { synced = content (old Root); content = turned (content (old Root)); ranges = (0, 1) ∷ [] }
    pub told : EachImage now (λ images. IsTold images before × IsActive images (named_in (images Root) a))

module _ (a : Active) (fails : Which → ℕ → Bool) (puts : List (List ℕ)) (old now : Which → History) (before after : Plain) where
  -- a call of the spool failed
  pub record IsCutAtSpool : Type 0 where
    pub past : IsPast a fails old
    pub at : ℕ
    pub failed : FailsFirst (fails Spool) (moment (old Spool)) (spool_calls puts) at
    pub root : now Root ≡ extended (old Root) (root_calls a)
    pub told : LeavesHost now before (ready a)

  -- A call of the active journal failed. The first two write the record, the third and the fourth
  -- its gate.
  pub record IsCutAtRecord : Type 0 where
    pub past : IsPast a fails old
    pub spool : AreClear (fails Spool) (moment (old Spool)) (spool_calls puts)
    pub at : ℕ
    pub failed : FailsFirst (fails (journal_of (ready a))) (record_moment a old) 4 at
    pub root : now Root ≡ extended (old Root) (root_calls a)
    pub told : at < 2 → LeavesHost now before (ready a)
    pub gate : 2 ≤ at → IsAtHostGate (ready a) now before after

  -- a call of one of the journals, of that on `second` or of the other, cut a commit off: one of a
  -- checkpoint, which was due, or one of the record
  abbrev pub IsCutOn : Bool → Type 0
  IsCutOn second = ((not a.second ≡ second) × IsTrue (is_due a.is_old a.records) × IsCutAtOther a fails old now before)
      ⊎ (((ready a).second ≡ second) × IsCutAtRecord)

  -- a call of this disk cut a commit off; one of the root, where a checkpoint was due
  abbrev pub IsCutAt : Which → Type 0
  IsCutAt Root = IsTrue (is_due a.is_old a.records) × IsCutAtRoot a fails old now before
  IsCutAt First = IsCutOn false
  IsCutAt Second = IsCutOn true
  IsCutAt Spool = IsCutAtSpool
