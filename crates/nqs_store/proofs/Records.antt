-- A record in a journal, by what the append says of itself.
use Rattle.std.proofs.Common.{◌≡◌, ℕ, ◌+◌, ◌≤◌, ◌<◌, ◌∙◌, ◌↔◌, false, IsTrue, IsErrOf, List, [], ◌∷◌, ◌++◌, length, Ok, Err, OnOk, refl, sym, true≢false, arith}
use Rattle.nqs_outside.specs.Causes.{Rose}
use Rattle.nqs_outside.specs.History.{Call, extended, moment, state_at, MayLeave, EachSince, StopsShort, IsExact}
use Rattle.nqs_outside.specs.declared.disk.Disk as disk
use Rattle.nqs_journal.specs.Text.{StandsAfter}
use Rattle.nqs_journal.specs.Plan.{append_calls}
use Rattle.nqs_journal.specs.Gate.{IsAtGate}
use Rattle.nqs_journal.specs.Faults.{IsAppendFault}
use Rattle.nqs_journal.specs.Open.{disk_of, gate_of, count_of, is_old, is_stopped, history_of, Tells, BeforeOrAfter}
use Rattle.nqs_journal.specs.declared.fault.JournalFault.{JournalFault}
use Rattle.nqs_journal.specs.declared.fault.JournalFault.TheVariants.{Disk, NotJournal, TooLong, Stopped, Memory}
use Rattle.nqs_journal.specs.declared.journal.Journal.{Journal}
use Rattle.nqs_store.specs.Commits.{AreClear}
use Rattle.nqs_store.specs.Calls.{Appends}

module _ {D : Type 0} {g : disk.Ghosts D} (old now : Journal D g) (text : List ℕ) where
  -- it is done
  pub append_done : {E : Type 0}
      → is_stopped now ≡ false
      → count_of now ≡ count_of old + 1
      → is_old now ≡ is_old old
      → (IsTrue g.tells → history_of now ≡ extended (history_of old) (append_calls (gate_of old) text))
      → (IsTrue g.tells → AreClear (g.fails (disk_of old)) (moment (history_of old)) 4)
      → (IsTrue g.tells → (front : List ℕ) (payloads : List (List ℕ)) → Tells old front payloads
      → EachSince (moment (history_of old)) (history_of now) (BeforeOrAfter front payloads text))
      → (IsTrue g.tells → (front : List ℕ) (payloads : List (List ℕ)) → Tells old front payloads → Tells now front (payloads ++ text ∷ []))
      → (IsTrue g.tells → (i : ℕ) → g.fails (disk_of now) i ≡ g.fails (disk_of old) i)
      → g.faults (disk_of old) ≤ g.faults (disk_of now)
      → (IsTrue g.tells → g.reads (disk_of now) ≡ g.reads (disk_of old))
      → Appends {T = Unit {0}} {E = E} old now text (Ok tt)
  append_done running counted stays made clear any_moment acknowledged fuse later unread = record {
    done = record {
      running = running;
      counted = counted;
      stays = stays;
      made = made;
      clear = clear;
      any_moment = any_moment;
      acknowledged = acknowledged;
    };
    fault = tt;
    short = tt;
    fuse = fuse;
    later = later;
    unread = unread;
  }

  -- that of a short text, to a journal that isn't stopped, fails by its disk alone
  by_disk : length text ≤ 65536 → is_stopped old ≡ false → (said : JournalFault) → IsAppendFault said → (said ≡ TooLong → 65536 < length text)
      → (said ≡ Stopped → IsTrue (is_stopped old)) → said ≡ Disk
  by_disk short running Disk only long stopped = refl
  by_disk short running TooLong only long stopped = absurd (let above = long refl in omega (arith, above, short))
  by_disk short running Stopped only long stopped = absurd (true≢false (sym (stopped refl) ∙ running))
  by_disk short running (Memory memory) only long stopped = absurd only
  by_disk short running (NotJournal place) only long stopped = absurd only

  as_err : (said other : JournalFault) → said ≡ other → IsErrOf {T = Unit {0}} (Err said) other
  as_err said other p = λ j. Err (p j)

  -- it failed, whatever its caller makes of the fault
  pub append_failed : {E : Type 0} (fault : E) → length text ≤ 65536 → is_stopped old ≡ false → (said : JournalFault)
      → IsAppendFault said
      → IsErrOf {T = Unit {0}} (Err said) TooLong ↔ (65536 < length text)
      → IsErrOf {T = Unit {0}} (Err said) Stopped ↔ ((length text ≤ 65536) × IsTrue (is_stopped old))
      → (IsErrOf {T = Unit {0}} (Err said) Disk → Rose (g.faults (disk_of old)) (g.faults (disk_of now)))
      → (IsTrue g.tells → (calls : List Call) × (history_of now ≡ extended (history_of old) calls) × StopsShort (append_calls (gate_of old) text) calls)
      → (IsTrue g.tells → length text ≤ 65536 → is_stopped old ≡ false → IsExact (g.fails (disk_of old)) (g.starved (disk_of old))
      (g.starved (disk_of now)) (history_of old) (history_of now) (append_calls (gate_of old) text))
      → (IsTrue g.tells → (front : List ℕ) (payloads : List (List ℕ)) → Tells old front payloads
      → EachSince (moment (history_of old)) (history_of now) (BeforeOrAfter front payloads text))
      → (IsTrue g.tells → (front : List ℕ) (payloads : List (List ℕ)) → Tells old front payloads
      → (t : ℕ) (image : List ℕ) → moment (history_of old) ≤ t → t ≤ moment (history_of old) + 2 → t ≤ moment (history_of now)
      → MayLeave (history_of now) t image → StandsAfter front image payloads)
      → (IsTrue g.tells → (front : List ℕ) (payloads : List (List ℕ)) → Tells old front payloads
      → (t : ℕ) → moment (history_of old) + 3 ≤ t → t ≤ moment (history_of now)
      → OnOk {T = Unit {0}} (Err said) (t ≡ moment (history_of old) + 3)
      → IsAtGate (state_at (history_of now) t) (gate_of old) (λ image. StandsAfter front image payloads)
      (λ image. StandsAfter front image (payloads ++ text ∷ [])))
      → (IsTrue g.tells → (i : ℕ) → g.fails (disk_of now) i ≡ g.fails (disk_of old) i)
      → g.faults (disk_of old) ≤ g.faults (disk_of now)
      → (IsTrue g.tells → g.reads (disk_of now) ≡ g.reads (disk_of old))
      → Appends {T = Unit {0}} old now text (Err fault)
  append_failed fault short running said only long stopped rose broken exact any_moment until_third at_the_gate fuse later unread = record {
    done = tt;
    fault = rose (as_err said Disk (by_disk short running said only (λ p. long.0 (as_err said TooLong p)) (λ p. (stopped.0 (as_err said Stopped p)).1)));
    short = record {
      broken = broken;
      exact = λ told. exact told short running;
      any_moment = any_moment;
      until_third = until_third;
      at_the_gate = λ told front payloads tells t from to. at_the_gate told front payloads tells t from to tt;
    };
    fuse = fuse;
    later = later;
    unread = unread;
  }
