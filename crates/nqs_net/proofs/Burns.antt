-- After a change that was made the fuses have burnt, and the counts have grown.
use Rattle.std.proofs.Common.{◌≡◌, ℕ, ◌+◌, ◌-◌, ◌%◌, ◌==◌, ◌<◌, nat_le, Bool, true, false, not, List, [], ◌∷◌, ◌++◌, length, Option, None, Some, refl}
use Rattle.std.proofs.Common.{sym, ap, subst, ◌∙◌, arith}
use Rattle.std.specs.Prelude.{if◌then◌else◌}
use Rattle.std.proofs.lemmas.Bool.Decides.{nat_tests}
use Rattle.std.proofs.lemmas.List.{length-append}
use Rattle.nqs_state.specs.State.{Plain}
use Rattle.nqs_types.specs.declared.world.Which.{Which}
use Rattle.nqs_types.specs.declared.world.Which.TheVariants.{Root, First, Second, Spool}
use Rattle.nqs_outside.specs.History.{Call, write, sync, History, moment, extended}
use Rattle.nqs_journal.specs.Plan.{append_calls, begin_calls, front_calls}
use Rattle.nqs_journal.specs.Text.{snapshot_front}
use Rattle.nqs_rules.specs.Journals.{is_second, active, byte_of, is_due}
use Rattle.nqs_rules.specs.World.{Host, falls, burnt, spool_calls, calling, turns_over, ready, wrote, used, of_disk}
use Rattle.nqs_store.specs.Active.{Active, journal_of, other_of, turned_to, ready as ready_in}
use Rattle.nqs_store.specs.Commits.{AreClear, IsPast, IsKept, record_moment}
use Rattle.nqs_store.specs.Hosts.{HostCall, same_disk, on, part}
use Rattle.nqs_store.specs.Plan.{puts_calls, checkpoint_calls, due_calls, commit_calls}
use Rattle.nqs_store.proofs.HostRuns.{part_own, part_other, part_append}
use Rattle.nqs_net.specs.Worlds.{IsFuse, AreInTurn, IsDisk, AreDisks, active_in}
use Rattle.nqs_net.proofs.Fates.{clear_falls}
use Rattle.nqs_net.proofs.Parts.{root_other, spool_other, journal_not_root, journal_not_spool, ran, ran_more, ran_still}
use Rattle.nqs_net.proofs.Parts.{ran_same}
use Rattle.nqs_net.proofs.Parts.{ran_other, moment_more}

-- calls in turn

turn_more : (calls more : List Call) → AreInTurn calls → AreInTurn more → AreInTurn (calls ++ more)
turn_more [] more turn next = next
turn_more (write place bytes true ∷ sync true ∷ calls) more turn next = turn_more calls more turn next
turn_more (write place bytes true ∷ sync false ∷ calls) more turn next = absurd turn
turn_more (write place bytes true ∷ write at also ok ∷ calls) more turn next = absurd turn
turn_more (write place bytes true ∷ []) more turn next = absurd turn
turn_more (write place bytes false ∷ calls) more turn next = absurd turn
turn_more (sync ok ∷ calls) more turn next = absurd turn

puts_turn : (places : List ℕ) (puts : List (List ℕ)) → AreInTurn (puts_calls places puts)
puts_turn [] puts = tt
puts_turn (place ∷ places) [] = tt
puts_turn (place ∷ places) ([] ∷ puts) = puts_turn places puts
puts_turn (place ∷ places) ((byte ∷ bytes) ∷ puts) = puts_turn places puts

pub puts_count : (places : List ℕ) (puts : List (List ℕ)) → length places ≡ length puts → length (puts_calls places puts) ≡ spool_calls puts
puts_count [] [] same = refl
puts_count [] (put ∷ puts) same = absurd (let no : ⊥ = omega (arith, same) in no)
puts_count (place ∷ places) [] same = absurd (let no : ⊥ = omega (arith, same) in no)
puts_count (place ∷ places) ([] ∷ puts) same = puts_count places puts (omega (arith, same))
puts_count (place ∷ places) ((byte ∷ bytes) ∷ puts) same = (let rest = puts_count places puts (omega (arith, same)) in omega (arith, rest))

-- a disk after so many calls that weren't to fail

burnt_fuse : (fuse : Option ℕ) (made n later : ℕ) (fails now : ℕ → Bool) → ((i : ℕ) → now i ≡ fails i) → IsFuse fuse made fails → falls fuse n ≡ false
    → later ≡ made + n → IsFuse (burnt n fuse) later now
burnt_fuse None made n later fails now same is none at = λ i. same i ∙ is i
burnt_fuse (Some left) made n later fails now same is none at =
    let more : n < left = grind (arith, nat_tests, none) in (
      omega (arith, more),
      λ i. same i ∙ is.1 i ∙ (let e : nat_le (made + (left - 1)) i ≡ nat_le (later + (left - n - 1)) i =
          ap (λ k. nat_le k i) (omega (arith, more, at)) in e),
    )

module _ (fuse : Option ℕ) (calls : ℕ) (h k : History) (fails now : ℕ → Bool) (more : List Call) (same : (i : ℕ) → now i ≡ fails i)
    (is : IsDisk fuse calls h fails) where
  after_calls : (n : ℕ) → k ≡ extended h more → length more ≡ n → AreInTurn more → falls fuse n ≡ false → IsDisk (burnt n fuse) (calls + n) k now
  after_calls n made count turn none =
      let grown : moment k ≡ moment h + n = ap moment made ∙ length-append h.calls more ∙ ap (λ m. length h.calls + m) count in
      record {
        fuse = burnt_fuse fuse (moment h) n (moment k) fails now same is.fuse none grown;
        count = grown ∙ ap (λ m. m + n) is.count;
        turn = subst (λ (x : History). AreInTurn x.calls) (sym made) (turn_more h.calls more is.turn turn);
      }

  after_none : k ≡ h → IsDisk fuse calls k now
  after_none made = record {
    fuse = subst (λ (x : History). IsFuse fuse (moment x) now) (sym made) (same_fuse fuse is.fuse);
    count = ap moment made ∙ is.count;
    turn = subst (λ (x : History). AreInTurn x.calls) (sym made) is.turn;
  }
    where
      same_fuse : (f : Option ℕ) → IsFuse f (moment h) fails → IsFuse f (moment h) now
      same_fuse None old = λ i. same i ∙ old i
      same_fuse (Some left) old = (old.0, λ i. same i ∙ old.1 i)

-- the same disks, where no call was made
pub same_disks : (host : Host) (fails now_fails : Which → ℕ → Bool) (old now : Which → History) → AreDisks host old fails
    → ((which : Which) (i : ℕ) → now_fails which i ≡ fails which i) → ((which : Which) → now which ≡ old which) → AreDisks host now now_fails
same_disks host fails now_fails old now disks same idle which = after_none (of_disk which host.fuses) (of_disk which host.calls) (old which) (now which)
    (fails which) (now_fails which) [] (same which) (disks which) (idle which)

-- calls of one disk that weren't to fail
module _ (host : Host) (fails : Which → ℕ → Bool) (old : Which → History) (disks : AreDisks host old fails) (disk : Which) (n : ℕ) (calls : List Call)
    (count : length calls ≡ n) (turn : AreInTurn calls) (clear : AreClear (fails disk) (moment (old disk)) n) where
  made : IsDisk (burnt n (of_disk disk host.fuses)) (of_disk disk host.calls + n) (ran old (on disk calls) disk) (fails disk)
  made = after_calls (of_disk disk host.fuses) (of_disk disk host.calls) (old disk) (ran old (on disk calls) disk) (fails disk) (fails disk) calls
      (λ i. refl) (disks disk) n (ran_same old disk calls) count turn (clear_falls (of_disk disk host.fuses) (moment (old disk)) n (fails disk)
      (disks disk).fuse clear)

  still : (which : Which) → same_disk which disk ≡ false
      → IsDisk (of_disk which host.fuses) (of_disk which host.calls) (ran old (on disk calls) which) (fails which)
  still which other = after_none (of_disk which host.fuses) (of_disk which host.calls) (old which) (ran old (on disk calls) which) (fails which) (fails which)
      [] (λ i. refl) (disks which) (ran_other old which disk calls other)

calling_disks : (host : Host) (fails : Which → ℕ → Bool) (old : Which → History) → AreDisks host old fails → (disk : Which) (n : ℕ) (calls : List Call)
    → length calls ≡ n → AreInTurn calls → AreClear (fails disk) (moment (old disk)) n → AreDisks (calling disk n host) (ran old (on disk calls)) fails
calling_disks host fails old disks Root n calls count turn clear Root = made host fails old disks Root n calls count turn clear
calling_disks host fails old disks Root n calls count turn clear First = still host fails old disks Root n calls count turn clear First refl
calling_disks host fails old disks Root n calls count turn clear Second = still host fails old disks Root n calls count turn clear Second refl
calling_disks host fails old disks Root n calls count turn clear Spool = still host fails old disks Root n calls count turn clear Spool refl
calling_disks host fails old disks First n calls count turn clear Root = still host fails old disks First n calls count turn clear Root refl
calling_disks host fails old disks First n calls count turn clear First = made host fails old disks First n calls count turn clear
calling_disks host fails old disks First n calls count turn clear Second = still host fails old disks First n calls count turn clear Second refl
calling_disks host fails old disks First n calls count turn clear Spool = still host fails old disks First n calls count turn clear Spool refl
calling_disks host fails old disks Second n calls count turn clear Root = still host fails old disks Second n calls count turn clear Root refl
calling_disks host fails old disks Second n calls count turn clear First = still host fails old disks Second n calls count turn clear First refl
calling_disks host fails old disks Second n calls count turn clear Second = made host fails old disks Second n calls count turn clear
calling_disks host fails old disks Second n calls count turn clear Spool = still host fails old disks Second n calls count turn clear Spool refl
calling_disks host fails old disks Spool n calls count turn clear Root = still host fails old disks Spool n calls count turn clear Root refl
calling_disks host fails old disks Spool n calls count turn clear First = still host fails old disks Spool n calls count turn clear First refl
calling_disks host fails old disks Spool n calls count turn clear Second = still host fails old disks Spool n calls count turn clear Second refl
calling_disks host fails old disks Spool n calls count turn clear Spool = made host fails old disks Spool n calls count turn clear

-- the journal that is active after a checkpoint, where one was due

is_turned : (second : Bool) → (byte_of second % 2 == 1) ≡ second
is_turned true = refl
is_turned false = refl

ready_by : (host : Host) (b : Bool) → active_in (if b then turns_over host else host)
    ≡ (if b then turned_to (active_in host) else active_in host)
ready_by host true = λ j. record { second = is_turned (not (is_second host.root)) j; records = 0; is_old = false }
ready_by host false = refl

pub ready_active : (host : Host) → active_in (ready host) ≡ ready_in (active_in host)
ready_active host = ready_by host (is_due host.is_old host.records)

-- where a checkpoint is due, and where none is

-- the disks after a checkpoint, where one was due
module _ (host : Host) (fails : Which → ℕ → Bool) (old : Which → History) (disks : AreDisks host old fails) (snapshot : List ℕ) where
  abbrev here : Active
  here = active_in host

  abbrev other_calls : List HostCall
  other_calls = on (other_of here) (front_calls (snapshot_front snapshot))

  abbrev byte_calls : List Call
  byte_calls = begin_calls (byte_of (not here.second) ∷ [])

  turned_disks : AreClear (fails (other_of here)) (moment (old (other_of here))) 2 → AreClear (fails Root) (moment (old Root)) 2
      → AreDisks (turns_over host) (ran old (checkpoint_calls here snapshot)) fails
  turned_disks other root =
      let one = calling (other_of here) 2 host in
      let mid = ran old other_calls in
      let first : AreDisks one mid fails = calling_disks host fails old disks (other_of here) 2 (front_calls (snapshot_front snapshot)) refl tt other in
      let same : moment (mid Root) ≡ moment (old Root) = ap moment (ran_other old Root (other_of here) (front_calls (snapshot_front snapshot))
      (root_other (not here.second))) in
      let both : AreDisks (turns_over host) (ran mid (on Root byte_calls)) fails = calling_disks one fails mid first Root 2 byte_calls refl tt
      (subst (λ t. AreClear (fails Root) t 2) (sym same) root) in
      same_disks (turns_over host) fails fails (ran mid (on Root byte_calls)) (ran old (checkpoint_calls here snapshot)) both (λ which i. refl)
      (ran_more old other_calls (on Root byte_calls))

  pub ready_disks : IsPast here fails old → AreDisks (ready host) (ran old (due_calls here snapshot)) fails
  ready_disks past = by (is_due host.is_old host.records) refl
    where
      by : (b : Bool) → is_due host.is_old host.records ≡ b
          → AreDisks (if b then turns_over host else host) (ran old (if b then checkpoint_calls here snapshot else [])) fails
      by true due = turned_disks (past.other due) (past.root due)
      by false idle = same_disks host fails fails old (ran old []) disks (λ which i. refl) (λ which. ran_still old [] which refl)

-- the parts of a checkpoint's calls

module _ (a : Active) (snapshot : List ℕ) where
  abbrev front_part : List Call
  front_part = front_calls (snapshot_front snapshot)

  abbrev byte_part : List Call
  byte_part = begin_calls (byte_of (not a.second) ∷ [])

  pub spool_due : (b : Bool) → part Spool (if b then checkpoint_calls a snapshot else []) ≡ []
  spool_due false = refl
  spool_due true = part_append Spool (on (other_of a) front_part) (on Root byte_part)
      ∙ ap (λ l. l ++ []) (part_other Spool (other_of a) front_part (spool_other (not a.second)))

  pub root_due : (b : Bool) → part Root (if b then checkpoint_calls a snapshot else []) ≡ (if b then byte_part else [])
  root_due false = refl
  root_due true = part_append Root (on (other_of a) front_part) (on Root byte_part)
      ∙ ap (λ l. l ++ byte_part) (part_other Root (other_of a) front_part (root_other (not a.second)))

  -- of the journal that the record goes to
  pub journal_due : (b : Bool) → length (part (journal_of (if b then turned_to a else a)) (if b then checkpoint_calls a snapshot else []))
      ≡ (if b then 2 else 0)
  journal_due false = refl
  journal_due true = ap length (part_append (other_of a) (on (other_of a) front_part) (on Root byte_part)
      ∙ ap (λ l. l ++ part (other_of a) (on Root byte_part)) (part_own (other_of a) front_part)
      ∙ ap (λ l. front_part ++ l) (part_other (other_of a) Root byte_part (journal_not_root (not a.second))))

module _ (old : Which → History) (a : Active) (snapshot : List ℕ) where
  pub spool_then : moment (ran old (due_calls a snapshot) Spool) ≡ moment (old Spool)
  spool_then = ap moment (ran_still old (due_calls a snapshot) Spool (spool_due a snapshot (is_due a.is_old a.records)))

  pub journal_then : moment (ran old (due_calls a snapshot) (journal_of (ready_in a))) ≡ record_moment a old
  journal_then = moment_more (old (journal_of (ready_in a))) (part (journal_of (ready_in a)) (due_calls a snapshot))
      ∙ ap (λ n. moment (old (journal_of (ready_in a))) + n) (journal_due a snapshot (is_due a.is_old a.records))

-- the disks after the calls of a change
module _ (host : Host) (fails : Which → ℕ → Bool) (old : Which → History) (disks : AreDisks host old fails) (puts : List (List ℕ)) (places : List ℕ)
    (gate : ℕ) (payload : List ℕ) (many : length places ≡ length puts) (j : Which) (is_active : active host.root ≡ j) (apart : same_disk j Spool ≡ false) where
  written_disks : AreClear (fails Spool) (moment (old Spool)) (spool_calls puts) → AreClear (fails j) (moment (old j)) 4
      → AreDisks (wrote puts host) (ran (ran old (on Spool (puts_calls places puts))) (on j (append_calls gate payload))) fails
  written_disks spool journal =
      let n = spool_calls puts in
      let one = calling Spool n host in
      let mid = ran old (on Spool (puts_calls places puts)) in
      let first : AreDisks one mid fails = calling_disks host fails old disks Spool n (puts_calls places puts) (puts_count places puts many)
      (puts_turn places puts) spool in
      let same : moment (mid j) ≡ moment (old j) = ap moment (ran_other old j Spool (puts_calls places puts) apart) in
      let both : AreDisks (calling j 4 one) (ran mid (on j (append_calls gate payload))) fails = calling_disks one fails mid first j 4
      (append_calls gate payload) refl tt (subst (λ t. AreClear (fails j) t 4) (sym same) journal) in
      subst (λ d. AreDisks (calling d 4 one) (ran mid (on j (append_calls gate payload))) fails) (sym is_active) both

-- a change was kept
module _ (host : Host) (fails now_fails : Which → ℕ → Bool) (old now : Which → History) (disks : AreDisks host old fails)
    (same : (which : Which) (i : ℕ) → now_fails which i ≡ fails which i) (puts : List (List ℕ)) (kept : IsKept (active_in host) fails puts old now) where
  abbrev from : Active
  from = active_in host

  -- each disk made just its part of the calls
  made_all : (which : Which) → now which
      ≡ ran old (commit_calls from kept.calls.snapshot kept.calls.places puts kept.calls.gate kept.calls.payload) which
  made_all which = kept.calls.made which ∙ ap (λ l. ran old l which) kept.calls.stands

  pub kept_disks : (s : Plain) → AreDisks (used puts s host) now now_fails
  kept_disks s =
      let c = kept.calls in
      let due = due_calls from c.snapshot in
      let spool = on Spool (puts_calls c.places puts) in
      let j = journal_of (ready_in from) in
      let record_calls = on j (append_calls c.gate c.payload) in
      let mid = ran old due in
      let r = ready host in
      let is_active : active r.root ≡ j = ap journal_of (ready_active host) in
      let last : AreDisks (wrote puts r) (ran (ran mid spool) record_calls) fails =
      written_disks r fails mid (ready_disks host fails old disks c.snapshot kept.past)
      puts c.places c.gate c.payload c.many j is_active (journal_not_spool (ready_in from).second)
      (subst (λ t. AreClear (fails Spool) t (spool_calls puts)) (sym (spool_then old from c.snapshot)) kept.spool)
      (subst (λ t. AreClear (fails j) t 4) (sym (journal_then old from c.snapshot)) kept.journal) in
      same_disks (used puts s host) fails now_fails (ran (ran mid spool) record_calls) now last same
      (λ which. made_all which ∙ ran_more old due (spool ++ record_calls) which ∙ ran_more mid spool record_calls which)
