-- What one call of a journal, or of the root, leaves.
use Rattle.std.specs.Prelude.{◌≡◌, ℕ, ◌+◌, ◌≤◌, ◌<◌, ◌^◌, Bool, false, IsTrue, List, [], ◌∷◌, ◌++◌, length, Ok, IfOk, OnOk, OnErr}
use Rattle.std.specs.Global.{Vec}
use Rattle.std.specs.declared.result.Result.{Result}
use Rattle.nqs_rules.specs.Journals.{byte_of}
use Rattle.nqs_outside.specs.Causes.{Rose}
use Rattle.nqs_outside.specs.History.{Call, extended, moment, state_at, MayLeave, EachSince, StopsShort, IsExact}
use Rattle.nqs_outside.specs.declared.disk.Disk as disk
use Rattle.nqs_journal.specs.Text.{StandsAfter, snapshot_front}
use Rattle.nqs_journal.specs.Plan.{append_calls, begin_calls}
use Rattle.nqs_journal.specs.Either.{IsSnapshotText}
use Rattle.nqs_journal.specs.Gate.{IsAtGate}
use Rattle.nqs_journal.specs.Open.{disk_of, gate_of, count_of, is_old, is_stopped, history_of, Tells, BeforeOrAfter}
use Rattle.nqs_journal.specs.declared.journal.Journal.{Journal}
use Rattle.nqs_snapshot.specs.Reading.{snapshot_of}
use Rattle.nqs_store.specs.Commits.{AreClear}
use Rattle.nqs_store.specs.Told.{Host}

-- the text of a journal that begins with a snapshot, which is no longer than a list in memory
pub record IsTextOf (text snapshot : List ℕ) : Type 0 where
  pub small : length snapshot < 2 ^ 64
  pub is : text ≡ snapshot_front snapshot ++ 0 ∷ []

module _ {E : Type 0} where
  -- The text of a journal is written that begins with this snapshot of a host, and has no record.
  pub record WritesCheckpoint (snapshot : List ℕ) (host : Host) (result : Result (Vec ℕ) E) : Type 0 where
    -- it begins with the snapshot
    pub text : IfOk result (λ text. IsTextOf text.items snapshot)
    -- a journal may begin so
    pub begins : IfOk result (λ text. IsSnapshotText text.items)
    -- the snapshot is read as the host
    pub reads : OnOk result (snapshot_of snapshot ≡ Ok host)

module _ {D : Type 0} {g : disk.Ghosts D} where
  -- The journal begins anew with this text.
  pub record HasBegun (old now : Journal D g) (text : List ℕ) : Type 0 where
    pub running : is_stopped now ≡ false
    pub counted : count_of now ≡ 0
    pub new : is_old now ≡ false
    pub tells : IsTrue g.tells → (snapshot : List ℕ) → text ≡ snapshot_front snapshot ++ 0 ∷ [] → Tells now (snapshot_front snapshot) []
    pub made : IsTrue g.tells → history_of now ≡ extended (history_of old) (begin_calls text)
    pub clear : IsTrue g.tells → AreClear (g.fails (disk_of old)) (moment (history_of old)) 2

  -- One of the two calls failed.
  pub record HasBegunShort (old now : Journal D g) (text : List ℕ) : Type 0 where
    pub rose : Rose (g.faults (disk_of old)) (g.faults (disk_of now))
    pub broken : IsTrue g.tells → (calls : List Call) × (history_of now ≡ extended (history_of old) calls) × StopsShort (begin_calls text) calls
    pub exact : IsTrue g.tells → IsExact (g.fails (disk_of old)) (g.starved (disk_of old)) (g.starved (disk_of now))
        (history_of old) (history_of now) (begin_calls text)

  -- The record is in the journal.
  pub record HasAppended (old now : Journal D g) (text : List ℕ) : Type 0 where
    pub running : is_stopped now ≡ false
    pub counted : count_of now ≡ count_of old + 1
    pub stays : is_old now ≡ is_old old
    pub made : IsTrue g.tells → history_of now ≡ extended (history_of old) (append_calls (gate_of old) text)
    pub clear : IsTrue g.tells → AreClear (g.fails (disk_of old)) (moment (history_of old)) 4
    pub any_moment : IsTrue g.tells → (front : List ℕ) (payloads : List (List ℕ)) → Tells old front payloads
        → EachSince (moment (history_of old)) (history_of now) (BeforeOrAfter front payloads text)
    pub acknowledged : IsTrue g.tells → (front : List ℕ) (payloads : List (List ℕ)) → Tells old front payloads
        → Tells now front (payloads ++ text ∷ [])

  -- One of its four calls failed.
  pub record HasAppendedShort (old now : Journal D g) (text : List ℕ) : Type 0 where
    pub broken : IsTrue g.tells → (calls : List Call) × (history_of now ≡ extended (history_of old) calls)
        × StopsShort (append_calls (gate_of old) text) calls
    pub exact : IsTrue g.tells → IsExact (g.fails (disk_of old)) (g.starved (disk_of old)) (g.starved (disk_of now))
        (history_of old) (history_of now) (append_calls (gate_of old) text)
    pub any_moment : IsTrue g.tells → (front : List ℕ) (payloads : List (List ℕ)) → Tells old front payloads
        → EachSince (moment (history_of old)) (history_of now) (BeforeOrAfter front payloads text)
    pub until_third : IsTrue g.tells → (front : List ℕ) (payloads : List (List ℕ)) → Tells old front payloads
        → (t : ℕ) (image : List ℕ) → moment (history_of old) ≤ t → t ≤ moment (history_of old) + 2 → t ≤ moment (history_of now)
        → MayLeave (history_of now) t image → StandsAfter front image payloads
    pub at_the_gate : IsTrue g.tells → (front : List ℕ) (payloads : List (List ℕ)) → Tells old front payloads
        → (t : ℕ) → moment (history_of old) + 3 ≤ t → t ≤ moment (history_of now)
        → IsAtGate (state_at (history_of now) t) (gate_of old)
        (λ image. StandsAfter front image payloads) (λ image. StandsAfter front image (payloads ++ text ∷ []))

module _ {D T E : Type 0} (g : disk.Ghosts D) where
  -- The first byte of a root names a journal, or one of the two calls failed that write and sync
  -- it.
  pub record Names (second : Bool) (old now : D) (result : Result T E) : Type 0 where
    -- both were made
    pub made : IsTrue g.tells → OnOk result (g.history now ≡ extended (g.history old) (begin_calls (byte_of second ∷ [])))
    -- none of them was to fail
    pub clear : IsTrue g.tells → OnOk result (AreClear (g.fails old) (moment (g.history old)) 2)
    -- the first of them were made, of which only the last may have failed
    pub broken : IsTrue g.tells → OnErr result ((calls : List Call) × (g.history now ≡ extended (g.history old) calls)
        × StopsShort (begin_calls (byte_of second ∷ [])) calls)
    -- which of them failed is the disk's to say
    pub exact : IsTrue g.tells → IsExact (g.fails old) (g.starved old) (g.starved now) (g.history old) (g.history now) (begin_calls (byte_of second ∷ []))
    -- which calls are to fail stays
    pub fuse : IsTrue g.tells → (i : ℕ) → g.fails now i ≡ g.fails old i
    -- the count of faults doesn't fall
    pub later : g.faults old ≤ g.faults now
    -- a failed call was counted
    pub failed : OnErr result (Rose (g.faults old) (g.faults now))
    -- the root isn't read
    pub unread : IsTrue g.tells → g.reads now ≡ g.reads old
