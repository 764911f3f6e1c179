-- A commit whose parts are known, of a store for which memory was taken.
use Rattle.std.proofs.Common.{◌≡◌, ◌⊎◌, inl, inr, ℕ, Bool, true, false, IsTrue, List, [], Ok, OnOk, OnErr, IsErrOf, refl, sym, ap, subst, ◌∙◌}
use Rattle.std.proofs.Common.{◌≤◌, ◌∷◌, not, Err, arith}
use Rattle.std.specs.declared.result.Result.{Result}
use Rattle.nqs_base.specs.Extents.{extent_bytes}
use Rattle.nqs_state.specs.State.{Plain}
use Rattle.nqs_base.specs.declared.extent.Extent.{Extent}
use Rattle.nqs_types.specs.declared.change.Change.{Change}
use Rattle.nqs_rules.specs.Applied.{applied}
use Rattle.nqs_rules.specs.Filled.{filled}
use Rattle.nqs_types.specs.declared.world.Which.{Which}
use Rattle.nqs_types.specs.declared.world.Which.TheVariants.{Root, Spool}
use Rattle.nqs_outside.specs.Causes.{Rose}
use Rattle.nqs_outside.proofs.Roses.{rose_since}
use Rattle.nqs_outside.specs.History.{moment, content, state}
use Rattle.nqs_outside.specs.declared.disk.Disk as disk
use Rattle.nqs_spool.specs.Spooled as spool
use Rattle.nqs_rules.specs.Journals.{is_due}
use Rattle.nqs_rules.specs.Plain.{map_state}
use Rattle.nqs_rules.specs.World.{spool_calls}
use Rattle.nqs_snapshot.specs.Reading.{snapshot_of}
use Rattle.nqs_store.specs.Told.{Host}
use Rattle.nqs_store.specs.Active.{journal_of, other_of, turned_to, ready, recorded}
use Rattle.nqs_journal.specs.Plan.{begin_calls, front_calls}
use Rattle.nqs_journal.specs.Text.{snapshot_front}
use Rattle.nqs_rules.specs.Journals.{byte_of}
use Rattle.nqs_store.specs.Hosts.{on, HostCall, Runs, EachPrefix, StopsShort, failed_on}
use Rattle.nqs_store.specs.Plan.{CommitsBy, checkpoint_calls}
use Rattle.nqs_store.specs.Images.{IsTold}
use Rattle.nqs_store.specs.Commits.{AreClear, IsKept, IsCutAt, Keeping}
use Rattle.nqs_store.specs.Changing.{Turning, Changing, IsTurned, IsTurnCut, IsChangeCut}
use Rattle.nqs_store.specs.Stores.{Tells, disk_of, plain_of, history_of, fails_of, is_starved, is_stopped, active_of, journal_in}
use Rattle.nqs_journal.specs.Open as journal
use Rattle.nqs_rules.specs.Journals.{journal_on}
use Rattle.nqs_store.proofs.EachDisk.{each_of, stands_on}
use Rattle.nqs_store.specs.declared.store.Store.{Store}
use Rattle.nqs_base.specs.Want.{want}
use Rattle.nqs_store.specs.declared.fault.StoreFault.{StoreFault}
use Rattle.nqs_store.specs.declared.fault.StoreFault.TheVariants as store
use Rattle.nqs_store.specs.Calls.{state_after, IsLeft, MayStop, KeepsChange, Records, Commits, TurnsOver, Checkpoints}
use Rattle.nqs_store.specs.Steps.{IsTextOf}
use Rattle.std.proofs.lemmas.Result.{on_ok_weaker, on_err_weaker}
use Rattle.nqs_store.proofs.Runs.{stops_behind}
use Rattle.nqs_store.proofs.Results.{ok_three, either_way}
use Rattle.nqs_store.proofs.HostRuns.{none_stops, runs_none, moments_none, no_pending}
use Rattle.nqs_store.proofs.Committed.{quiet}
use Rattle.nqs_store.proofs.TellsNow.{told_now}
use Rattle.nqs_store.proofs.Composed.{here, there, here_by, here_keeping, here_kept, here_cut, there_by, there_keeping, there_kept, there_cut, turn_cut}
use Rattle.nqs_store.proofs.Composed.{turn_by, turn_keeping, idle_by, idle_keeping}

module _ {D : Type 0} {g : disk.Ghosts D} {E : Type 0} (r : Result (Unit {0}) E) (old now : Store D g) (puts : List (List ℕ)) (host : Host)
    (later : Plain) where
  -- none of the change's calls was to fail
  abbrev pub SpoolClear : Store D g → Type 0
  SpoolClear store = AreClear (fails_of store Spool) (moment (history_of store Spool)) (spool_calls puts)

  abbrev pub JournalClear : Store D g → Type 0
  JournalClear store = AreClear (fails_of store (journal_of (active_of store))) (moment (history_of store (journal_of (active_of store)))) 4

  -- where no checkpoint is due
  module _ (not_due : is_due (active_of old).is_old (active_of old).records ≡ false) where
    pub here_made : OnOk r (Changing (λ planned run. run ≡ planned) old now puts host later) → OnOk r (SpoolClear old) → OnOk r (JournalClear old)
        → OnOk r (IsKept (active_of old) (fails_of old) puts (history_of old) (history_of now))
    here_made = ok_three r (Changing (λ planned run. run ≡ planned) old now puts host later) (SpoolClear old) (JournalClear old)
        (IsKept (active_of old) (fails_of old) puts (history_of old) (history_of now))
        (λ c s j. here_kept old now puts host later not_due (fails_of old) c s j)

    pub here_broken : OnErr r (Changing StopsShort old now puts host later)
        → OnErr r (CommitsBy StopsShort (active_of old) puts (history_of old) (history_of now))
    here_broken = on_err_weaker r (λ c. here_by old now puts host later not_due c)

    pub here_moments : OnOk r (Changing (λ planned run. run ≡ planned) old now puts host later) → OnErr r (Changing StopsShort old now puts host later)
        → Tells old host → Keeping (active_of old) puts (history_of old) (history_of now) (plain_of old host) later
    here_moments made broken tells = either_way r (Changing (λ planned run. run ≡ planned) old now puts host later)
        (Changing StopsShort old now puts host later)
        (Keeping (active_of old) puts (history_of old) (history_of now) (plain_of old host) later)
        (λ c. here_keeping old now puts host later not_due (λ planned run is. inl is) c tells)
        (λ c. here_keeping old now puts host later not_due (λ planned run is. inr is) c tells) made broken

    pub here_fell : (before : Plain) (which : Which)
        → IsTrue (is_starved now which) ⊎ IsChangeCut (active_of old) (fails_of old) puts (history_of old) (history_of now) before later which
        → IsTrue (is_starved now which) ⊎ IsCutAt (active_of old) (fails_of old) puts (history_of old) (history_of now) before later which
    here_fell before which (inl starves) = inl starves
    here_fell before which (inr fell) = inr (here_cut old now puts host later not_due (fails_of old) before which fell)

  -- behind a checkpoint
  module _ (mid : Store D g) (snapshot : List ℕ) (due : is_due (active_of old).is_old (active_of old).records ≡ true)
      (turned : active_of mid ≡ turned_to (active_of old))
      (same_spool : mid.spool ≡ old.spool) (fuse : (w : Which) (i : ℕ) → fails_of mid w i ≡ fails_of old w i)
      (t : Turning (λ planned run. run ≡ planned) old mid snapshot host) (past : IsTurned (active_of old) (fails_of old) (history_of old)) where
    fails_path : fails_of mid ≡ fails_of old
    fails_path = λ j w i. fuse w i j

    pub plain_mid : (h : Host) → plain_of mid h ≡ plain_of old h
    plain_mid h = ap (λ s. map_state (extent_bytes (content (g.history (spool.disk_of s)))) h) same_spool

    pub there_made : OnOk r (Changing (λ planned run. run ≡ planned) mid now puts host later) → OnOk r (SpoolClear mid) → OnOk r (JournalClear mid)
        → OnOk r (IsKept (active_of old) (fails_of old) puts (history_of old) (history_of now))
    there_made = ok_three r (Changing (λ planned run. run ≡ planned) mid now puts host later) (SpoolClear mid) (JournalClear mid)
        (IsKept (active_of old) (fails_of old) puts (history_of old) (history_of now))
        (λ c s j. there_kept old mid now puts host later snapshot due turned t (fails_of old) past c
        (subst (λ f. AreClear (f Spool) (moment (history_of mid Spool)) (spool_calls puts)) fails_path s)
        (subst (λ f. AreClear (f (journal_of (active_of mid))) (moment (history_of mid (journal_of (active_of mid)))) 4) fails_path j))

    pub there_broken : OnErr r (Changing StopsShort mid now puts host later)
        → OnErr r (CommitsBy StopsShort (active_of old) puts (history_of old) (history_of now))
    there_broken = on_err_weaker r (λ c. there_by old mid now puts host later snapshot due turned t (λ planned run short. stops_behind failed_on
        (checkpoint_calls (active_of old) snapshot) planned run short) c)

    pub there_moments : OnOk r (Changing (λ planned run. run ≡ planned) mid now puts host later) → OnErr r (Changing StopsShort mid now puts host later)
        → snapshot_of snapshot ≡ Ok host → Tells old host → Tells mid host
        → Keeping (active_of old) puts (history_of old) (history_of now) (plain_of old host) later
    there_moments made broken reads tells tells' =
        either_way r (Changing (λ planned run. run ≡ planned) mid now puts host later) (Changing StopsShort mid now puts host later)
        (Keeping (active_of old) puts (history_of old) (history_of now) (plain_of old host) later)
        (λ c. there_keeping old mid now puts host later snapshot due turned t (λ planned run is. inl is) c reads tells tells' (plain_mid host))
        (λ c. there_keeping old mid now puts host later snapshot due turned t (λ planned run is. inr is) c reads tells tells' (plain_mid host)) made broken

    pub there_fell : (which : Which)
        → IsTrue (is_starved now which) ⊎ IsChangeCut (active_of mid) (fails_of mid) puts (history_of mid) (history_of now) (plain_of mid host) later which
        → IsTrue (is_starved now which) ⊎ IsCutAt (active_of old) (fails_of old) puts (history_of old) (history_of now) (plain_of old host) later which
    there_fell which (inl starves) = inl starves
    there_fell which (inr fell) = inr (there_cut old mid now puts host later snapshot due turned t (fails_of old) (plain_of old host) past which
        (subst (λ f. IsChangeCut (active_of mid) f puts (history_of mid) (history_of now) (plain_of old host) later which) fails_path
        (subst (λ p. IsChangeCut (active_of mid) (fails_of mid) puts (history_of mid) (history_of now) p later which) (plain_mid host) fell)))

-- a checkpoint leaves the bytes of what is told
pub plain_turned : {D : Type 0} {g : disk.Ghosts D} (old now : Store D g) → now.spool ≡ old.spool → (host : Host) → plain_of now host ≡ plain_of old host
plain_turned {D} {g} old now same host = ap (λ s. map_state (extent_bytes (content (g.history (spool.disk_of s)))) host) same

-- a call of a checkpoint failed
module _ {D : Type 0} {g : disk.Ghosts D} (old now : Store D g) (puts : List (List ℕ)) (host : Host) (later : Plain) (snapshot : List ℕ)
    (due : is_due (active_of old).is_old (active_of old).records ≡ true) (t : Turning StopsShort old now snapshot host) where
  pub turn_fell : (which : Which)
      → IsTrue (is_starved now which) ⊎ IsTurnCut (active_of old) (fails_of old) (history_of old) (history_of now) (plain_of old host) which
      → IsTrue (is_starved now which) ⊎ IsCutAt (active_of old) (fails_of old) puts (history_of old) (history_of now) (plain_of old host) later which
  turn_fell which (inl starves) = inl starves
  turn_fell which (inr fell) = inr (turn_cut old now puts host later snapshot due t (fails_of old) (plain_of old host) which fell)

-- a checkpoint alone
module _ {D : Type 0} {g : disk.Ghosts D} {E : Type 0} (r : Result (Unit {0}) E) (old now : Store D g) (host : Host) (snapshot : List ℕ) where
  pub turn_made : OnOk r (Turning (λ planned run. run ≡ planned) old now snapshot host)
      → OnOk r (Runs (history_of old) (history_of now) (checkpoint_calls (active_of old) snapshot))
  turn_made = on_ok_weaker r (λ t. subst (Runs (history_of old) (history_of now)) t.stands t.made)

  pub turn_broken : OnErr r (Turning StopsShort old now snapshot host)
      → OnErr r ((run : List HostCall) × StopsShort (checkpoint_calls (active_of old) snapshot) run × Runs (history_of old) (history_of now) run)
  turn_broken = on_err_weaker r (λ t. (t.run, t.stands, t.made))

  pub turn_moments : OnOk r (Turning (λ planned run. run ≡ planned) old now snapshot host) → OnErr r (Turning StopsShort old now snapshot host)
      → snapshot_of snapshot ≡ Ok host → Tells old host
      → (run : List HostCall) × Runs (history_of old) (history_of now) run × EachPrefix (history_of old) run (λ images. IsTold images (plain_of old host))
  turn_moments made broken reads tells = either_way r (Turning (λ planned run. run ≡ planned) old now snapshot host) (Turning StopsShort old now snapshot host)
      ((run : List HostCall) × Runs (history_of old) (history_of now) run × EachPrefix (history_of old) run (λ images. IsTold images (plain_of old host)))
      (λ t. (t.run, t.made, (t.at reads tells).told)) (λ t. (t.run, t.made, (t.at reads tells).told)) made broken

  pub turn_told : now.spool ≡ old.spool → OnOk r (Tells now host) → OnOk r (Tells now host × (plain_of now host ≡ plain_of old host))
  turn_told same = on_ok_weaker r (λ t. (t, ap (λ s. map_state (extent_bytes (content (g.history (spool.disk_of s)))) host) same))

-- and none
module _ {D : Type 0} {g : disk.Ghosts D} (yes : IsTrue g.tells) (old : Store D g) (host : Host) (tells : Tells old host) where
  pub turn_idle : (run : List HostCall) × Runs (history_of old) (history_of old) run
      × EachPrefix (history_of old) run (λ images. IsTold images (plain_of old host))
  turn_idle = (
    [],
    runs_none (history_of old) (history_of old) (λ w. refl),
    (moments_none (history_of old) (λ images. IsTold images (plain_of old host))
        (λ w. no_pending (state (history_of old w)) (content (history_of old w)) (quiet yes old host tells w))
        (λ images leaves. (told_now old host tells yes images leaves).0)).told,
  )

-- The same by the records that contracts cite.

-- of a call of the active journal that failed, or of the other: the rest of the disks is as it was
pub stops_at : {D : Type 0} {g : disk.Ghosts D} {T E : Type 0} (old now : Store D g) (failed : Which → E) (r : Result T E) (b : Bool)
    → OnOk r (is_stopped now ≡ false)
    → ((which : Which) → IsErrOf r (failed which) → IsTrue (is_stopped now) × Rose (g.faults (disk_of which old)) (g.faults (disk_of which now)))
    → now.root ≡ old.root → journal_in (not b) now ≡ journal_in (not b) old
    → g.faults (journal.disk_of (journal_in b old)) ≤ g.faults (journal.disk_of (journal_in b now))
    → (IsTrue g.tells → (i : ℕ) → g.fails (journal.disk_of (journal_in b now)) i ≡ g.fails (journal.disk_of (journal_in b old)) i)
    → g.faults (spool.disk_of old.spool) ≤ g.faults (spool.disk_of now.spool)
    → (IsTrue g.tells → (i : ℕ) → g.fails (spool.disk_of now.spool) i ≡ g.fails (spool.disk_of old.spool) i)
    → MayStop old now failed r
stops_at {D} {g} old now failed r b running broken root rest later fuse spool_later spool_fuse = record {
  running = running;
  broken = broken;
  later = each_of b (λ w. g.faults (disk_of w old) ≤ g.faults (disk_of w now)) (le_path _ _ (ap g.faults (sym root)))
      (subst (λ d. g.faults (disk_of (journal_on b) old) ≤ g.faults d) (sym (stands_on b now))
      (subst (λ d. g.faults d ≤ g.faults (journal.disk_of (journal_in b now))) (sym (stands_on b old)) later))
      (le_path _ _ (ap g.faults (stands_on (not b) old ∙ ap journal.disk_of (sym rest) ∙ sym (stands_on (not b) now)))) spool_later;
  fuse = λ told. each_of b (λ w. (i : ℕ) → fails_of now w i ≡ fails_of old w i) (λ i. ap (λ d. g.fails d i) root)
      (λ i. ap (λ d. g.fails d i) (stands_on b now) ∙ fuse told i ∙ ap (λ d. g.fails d i) (sym (stands_on b old)))
      (λ i. ap (λ d. g.fails d i) (stands_on (not b) now ∙ ap journal.disk_of rest ∙ sym (stands_on (not b) old))) (spool_fuse told);
}
  where
    le_path : (m n : ℕ) → m ≡ n → m ≤ n
    le_path m n is = omega (arith, is)

-- a failed call of a journal was counted by its disk
pub rose_at : {D : Type 0} {g : disk.Ghosts D} (old now : Store D g) (b : Bool) (which : Which) → journal_on b ≡ which
    → Rose (g.faults (journal.disk_of (journal_in b old))) (g.faults (journal.disk_of (journal_in b now)))
    → Rose (g.faults (disk_of which old)) (g.faults (disk_of which now))
rose_at {D} {g} old now b which is rose = subst (λ w. Rose (g.faults (disk_of w old)) (g.faults (disk_of w now))) is
    (subst (λ d. Rose (g.faults (disk_of (journal_on b) old)) (g.faults d)) (sym (stands_on b now))
    (subst (λ d. Rose (g.faults d) (g.faults (journal.disk_of (journal_in b now)))) (sym (stands_on b old)) rose))

-- what may stop a store, behind a call that stopped none
pub stops_since : {D : Type 0} {g : disk.Ghosts D} {T E : Type 0} (old mid now : Store D g) (failed : Which → E) (r : Result T E)
    → ((which : Which) → g.faults (disk_of which old) ≤ g.faults (disk_of which mid))
    → (IsTrue g.tells → (which : Which) (i : ℕ) → fails_of mid which i ≡ fails_of old which i) → MayStop mid now failed r → MayStop old now failed r
stops_since old mid now failed r later fuse m = record {
  running = m.running;
  broken = λ which is. (let b = m.broken which is in (b.0, rose_since _ _ _ (later which) b.1));
  later = λ which. omega (arith, later which, m.later which);
  fuse = λ told which i. m.fuse told which i ∙ fuse told which i;
}

module _ {D : Type 0} {g : disk.Ghosts D} {E : Type 0} (old now : Store D g) (change : Change Extent) (puts : List (List ℕ)) (host : Host)
    (failed : Which → E) where
  -- no call was made
  pub idle_commits : (e : E) → ((w : Which) → history_of now w ≡ history_of old w)
      → ((which : Which) → IsErrOf {T = Unit {0}} (Err e) (failed which) → ⊥) → Commits {T = Unit {0}} old now change puts host failed (Err e)
  idle_commits e same other = record {
    made = λ told. tt;
    broken_off = λ told. idle_by (active_of old) (history_of old) (history_of now) puts same;
    cut = λ told tells which is. absurd (other which is);
    any_moment = λ told tells. idle_keeping told old host tells (history_of now) puts (state_after old change puts host) same;
  }

  -- a call of a checkpoint failed
  pub turn_commits : (e : E) (text snapshot : List ℕ) → is_due (active_of old).is_old (active_of old).records ≡ true → IsTextOf text snapshot
      → snapshot_of snapshot ≡ Ok host
      → TurnsOver {T = Unit {0}} old now failed (Err e) text → Commits {T = Unit {0}} old now change puts host failed (Err e)
  turn_commits e text snapshot due is reads t = record {
    made = λ told. tt;
    broken_off = λ told. turn_by old now puts host (state_after old change puts host) snapshot due (t.broken_off told snapshot host is);
    cut = λ told tells which at. turn_fell old now puts host (state_after old change puts host) snapshot due (t.broken_off told snapshot host is) which
        (t.cut told snapshot host is reads tells which at);
    any_moment = λ told tells. turn_keeping old now puts host (state_after old change puts host) snapshot due (t.broken_off told snapshot host is) reads tells;
  }

  module _ (r : Result (Unit {0}) E) where
    -- a change without a checkpoint
    pub here_commits : is_due (active_of old).is_old (active_of old).records ≡ false → Records old now change puts host failed r
        → Commits old now change puts host failed r
    here_commits not_due e =
        let later = state_after old change puts host in
        record {
          made = λ told. here_made r old now puts host later not_due (e.made told) (e.spool told) (e.journal told);
          broken_off = λ told. here_broken r old now puts host later not_due (e.broken_off told);
          cut = λ told tells which is. here_fell r old now puts host later not_due (plain_of old host) which (e.cut told tells which is);
          any_moment = λ told tells. here_moments r old now puts host later not_due (e.made told) (e.broken_off told) tells;
        }

    pub here_keeps : (after : Change Extent) → is_due (active_of old).is_old (active_of old).records ≡ false
        → KeepsChange old now change after puts host (recorded (active_of old)) r
        → KeepsChange old now change after puts host (recorded (ready (active_of old))) r
    here_keeps after not_due = subst (λ a. KeepsChange old now change after puts host (recorded a) r) (sym (here (active_of old) not_due))

    -- a checkpoint and then a change
    module _ (mid : Store D g) (text snapshot : List ℕ) (due : is_due (active_of old).is_old (active_of old).records ≡ true) (is : IsTextOf text snapshot)
        (reads : snapshot_of snapshot ≡ Ok host) (t : TurnsOver {T = Unit {0}} old mid failed (Ok tt) text)
        (fuse : IsTrue g.tells → (w : Which) (i : ℕ) → fails_of mid w i ≡ fails_of old w i) where
      abbrev pub mid_later : Plain
      mid_later = state_after mid change puts host

      same : plain_of mid host ≡ plain_of old host
      same = plain_turned old mid t.spool host

      tells_mid : IsTrue g.tells → Tells old host → Tells mid host
      tells_mid told tells = t.told told snapshot host is reads tells

      pub there_commits : Records mid now change puts host failed r → Commits old now change puts host failed r
      there_commits e = record {
        made = λ told. there_made r old now puts host mid_later mid snapshot due t.active t.spool (fuse told) (t.made told snapshot host is) (t.past told)
            (e.made told) (e.spool told) (e.journal told);
        broken_off = λ told. there_broken r old now puts host mid_later mid snapshot due t.active t.spool (fuse told) (t.made told snapshot host is)
            (t.past told)
            (e.broken_off told);
        cut = λ told tells which at.
            subst (λ p. IsTrue (is_starved now which) ⊎ IsCutAt (active_of old) (fails_of old) puts (history_of old) (history_of now) (plain_of old host)
            (applied (filled change puts) p) which) same
            (there_fell r old now puts host mid_later mid snapshot due t.active t.spool (fuse told) (t.made told snapshot host is) (t.past told) which
            (e.cut told (tells_mid told tells) which at));
        any_moment = λ told tells.
            subst (λ p. Keeping (active_of old) puts (history_of old) (history_of now) (plain_of old host) (applied (filled change puts) p)) same
            (there_moments r old now puts host mid_later mid snapshot due t.active t.spool (fuse told) (t.made told snapshot host is) (t.past told)
            (e.made told) (e.broken_off told) reads tells (tells_mid told tells));
      }

      pub there_keeps : (after : Change Extent) → KeepsChange mid now change after puts host (recorded (active_of mid)) r
          → KeepsChange old now change after puts host (recorded (ready (active_of old))) r
      there_keeps after k = record {
        stands = k.stands;
        shape = k.shape;
        filled = λ told tells. k.filled told (tells_mid told tells);
        kept = λ told tells. subst (λ p. OnOk r (plain_of now host ≡ p)) same (k.kept told (tells_mid told tells));
        told = λ told tells. k.told told (tells_mid told tells);
        active = on_ok_weaker r (λ at. at ∙ ap recorded (t.active ∙ sym (there (active_of old) due))) k.active;
        plain = λ told tells.
            subst (λ p. OnOk r (plain_of now (applied after host) ≡ applied (filled change puts) p)) same (k.plain told (tells_mid told tells));
      }

module _ {D : Type 0} {g : disk.Ghosts D} {E : Type 0} (old now : Store D g) (failed : Which → E) (r : Result (Unit {0}) E) (snapshot : List ℕ)
    (host : Host) where
  -- a checkpoint of what a text says
  pub checkpoint_by : (text : List ℕ) → IsTextOf text snapshot → snapshot_of snapshot ≡ Ok host → TurnsOver old now failed r text
      → Checkpoints old now failed r snapshot host
  checkpoint_by text is reads t = record {
    active = t.active;
    told = λ told tells. turn_told r old now host snapshot t.spool (t.told told snapshot host is reads tells);
    made = λ told. turn_made r old now host snapshot (t.made told snapshot host is);
    broken_off = λ told. turn_broken r old now host snapshot (t.broken_off told snapshot host is);
    any_moment = λ told tells. turn_moments r old now host snapshot (t.made told snapshot host is) (t.broken_off told snapshot host is) reads tells;
  }

-- and none: no call was made
pub checkpoint_idle : {D : Type 0} {g : disk.Ghosts D} {E : Type 0} (old : Store D g) (failed : Which → E) (e : E) (snapshot : List ℕ) (host : Host)
    → Checkpoints {T = Unit {0}} old old failed (Err e) snapshot host
checkpoint_idle old failed e snapshot host = record {
  active = tt;
  told = λ told tells. tt;
  made = λ told. tt;
  broken_off = λ told. (
    [],
    none_stops (on (other_of (active_of old)) (front_calls (snapshot_front snapshot))) (on Root (begin_calls (byte_of (not old.on_second) ∷ []))) tt,
    runs_none (history_of old) (history_of old) (λ w. refl),
  );
  any_moment = λ told tells. turn_idle told old host tells;
}

-- want of memory is no fault of a disk
pub only_memory : (fault : StoreFault) → fault ≡ store.Memory want → (which : Which) → IsErrOf {T = Unit {0}} (Err fault) (store.Disk which) → ⊥
only_memory fault is which failed = let no : ⊥ = cc in no

-- nothing happened
pub left_alone : {D : Type 0} {g : disk.Ghosts D} (old : Store D g) → IsLeft old old
left_alone old = record { same = λ which. refl; stopped = refl; active = refl; tells = λ host tells. tells }
