-- What a load answers, from what the opening of the journal that the root names does.
use Rattle.std.proofs.Common.{◌≡◌, ◌≤◌, ◌+◌, ◌⊎◌, inl, inr, ℕ, Bool, not, IsTrue, List, Result, Ok, Err, IfOk, IfErr, MatchResult, sym, ap, subst, ◌∙◌}
use Rattle.nqs_state.specs.State.{content}
use Rattle.nqs_state.specs.declared.state.HostState.{HostState}
use Rattle.nqs_base.specs.Want.{want}
use Rattle.nqs_types.specs.declared.world.Which.{Which}
use Rattle.nqs_types.specs.declared.world.Which.TheVariants.{Root, Spool}
use Rattle.nqs_outside.specs.History.{IsQuiet, content as bytes_now}
use Rattle.nqs_outside.specs.Reads as one
use Rattle.nqs_outside.specs.declared.disk.Disk as disk
use Rattle.nqs_journal.specs.Open as journals
use Rattle.nqs_spool.specs.Spooled as spools
use Rattle.nqs_rules.specs.Journals.{is_second, journal_on}
use Rattle.nqs_store.specs.Told.{Host}
use Rattle.nqs_store.specs.Active.{IsActive}
use Rattle.nqs_store.specs.Disks.{disk_at, histories_of, contents}
use Rattle.nqs_store.specs.Images.{IsToldHost}
use Rattle.nqs_store.specs.Opens.{AreOpened, OpensOn, Loads}
use Rattle.nqs_store.specs.Faults.{IsBytesFault, IsLoadFault}
use Rattle.nqs_store.specs.Reads.{OnlyReads, FailedToRead, AsksAtMost, of_reading}
use Rattle.nqs_store.specs.Stores.{disk_of, history_of, journal_in, active_of, Tells}
use Rattle.nqs_store.specs.declared.disks.Disks.{Disks}
use Rattle.nqs_store.specs.declared.fault.LoadFault.{LoadFault}
use Rattle.nqs_store.specs.declared.fault.LoadFault.TheVariants as load
use Rattle.nqs_store.specs.declared.store.Store.{Store}
use Rattle.nqs_store.proofs.EachDisk.{each_of, stands_on, history_on}
use Rattle.nqs_store.proofs.Asking.{asks_each, asks_named}
use Rattle.nqs_store.proofs.Never.{one_told, load_not}
use Rattle.nqs_store.proofs.Opening.{read_fault, one_same, each_reads, failed_at, opened_tells, tells_read, tells_active}

module _ {D : Type 0} (g : disk.Ghosts D) (disks : Disks D) (root : D)
    (read : one.OnlyReads g disks.root root) (b : Bool) where
  abbrev Answer : Type 0
  Answer = Result (Store D g × HostState) (LoadFault × Disks D)

  abbrev bytes : Which → List ℕ
  bytes = contents (histories_of g.history disks)

  abbrev One : D → D → Type 0
  One old now = one.OnlyReads g old now

  abbrev OneFailed : D → D → Type 0
  OneFailed old now = one.FailedToRead g old now

  -- the root that was read is the answer's
  abbrev Roots : Answer → Type 0
  Roots r = MatchResult r (λ x. x.0.root ≡ root) (λ e. e.1.root ≡ root)

  -- the journal that is named was only read
  abbrev Actives : Answer → Type 0
  Actives r = MatchResult r (λ x. One (disk_at (journal_on b) disks) (journals.disk_of (journal_in b x.0)))
      (λ e. One (disk_at (journal_on b) disks) (disk_at (journal_on b) e.1))

  -- nothing was done to the other
  abbrev Rests : Answer → Type 0
  Rests r = MatchResult r (λ x. journals.disk_of (journal_in (not b) x.0) ≡ disk_at (journal_on (not b)) disks)
      (λ e. disk_at (journal_on (not b)) e.1 ≡ disk_at (journal_on (not b)) disks)

  -- the spool was only read
  abbrev Spools : Answer → Type 0
  Spools r = MatchResult r (λ x. One disks.spool (spools.disk_of x.0.spool)) (λ e. One disks.spool e.1.spool)

  reads_end : (r : Answer) → Roots r → Actives r → Rests r → Spools r
      → MatchResult r (λ x. OnlyReads g (λ at. disk_at at disks) (λ at. disk_of at x.0))
      (λ e. OnlyReads g (λ at. disk_at at disks) (λ at. disk_at at e.1))
  reads_end (Ok x) is active rests spool =
      each_reads g (λ at. disk_at at disks) (λ at. disk_of at x.0)
      (each_of b (λ w. One (disk_at w disks) (disk_of w x.0)) (subst (One disks.root) (sym is) read)
      (subst (One (disk_at (journal_on b) disks)) (sym (stands_on b x.0)) active)
      (one_same g (disk_at (journal_on (not b)) disks) (disk_of (journal_on (not b)) x.0)
      (stands_on (not b) x.0 ∙ rests)) spool)
  reads_end (Err e) is active rests spool =
      each_reads g (λ at. disk_at at disks) (λ at. disk_at at e.1)
      (each_of b (λ w. One (disk_at w disks) (disk_at w e.1)) (subst (One disks.root) (sym is) read) active
      (one_same g (disk_at (journal_on (not b)) disks) (disk_at (journal_on (not b)) e.1) rests) spool)

  -- the journal that is named was asked twice
  abbrev Twices : Answer → Type 0
  Twices r = IsTrue g.tells → MatchResult r (λ x. g.reads (journals.disk_of (journal_in b x.0)) ≤ g.reads (disk_at (journal_on b) disks) + 2)
      (λ e. g.reads (disk_at (journal_on b) e.1) ≤ g.reads (disk_at (journal_on b) disks) + 2)

  -- the spool was asked once
  abbrev Onces : Answer → Type 0
  Onces r = IsTrue g.tells → MatchResult r (λ x. g.reads (spools.disk_of x.0.spool) ≤ g.reads disks.spool + 1)
      (λ e. g.reads e.1.spool ≤ g.reads disks.spool + 1)

  asks_end : (r : Answer) → (IsTrue g.tells → b ≡ is_second (bytes Root)) → (IsTrue g.tells → g.reads root ≤ g.reads disks.root + 1)
      → Roots r → Twices r → Rests r → Onces r
      → MatchResult r (λ x. AsksAtMost g (λ at. disk_at at disks) (λ at. disk_of at x.0) (of_reading (is_second (bytes Root))))
      (λ e. AsksAtMost g (λ at. disk_at at disks) (λ at. disk_at at e.1) (of_reading (is_second (bytes Root))))
  asks_end (Ok x) names asked is twice rests once =
      asks_named g (λ at. disk_at at disks) (λ at. disk_of at x.0) b (is_second (bytes Root)) names
      (asks_each g (λ at. disk_at at disks) (λ at. disk_of at x.0) b
      (λ yes. subst (λ d. g.reads d ≤ g.reads disks.root + 1) (sym is) (asked yes))
      (λ yes. subst (λ d. g.reads d ≤ g.reads (disk_at (journal_on b) disks) + 2) (sym (stands_on b x.0)) (twice yes))
      (stands_on (not b) x.0 ∙ rests) once)
  asks_end (Err e) names asked is twice rests once =
      asks_named g (λ at. disk_at at disks) (λ at. disk_at at e.1) b (is_second (bytes Root)) names
      (asks_each g (λ at. disk_at at disks) (λ at. disk_at at e.1) b
      (λ yes. subst (λ d. g.reads d ≤ g.reads disks.root + 1) (sym is) (asked yes)) twice rests once)

  failed_end : (r : Answer)
      → IfErr r (λ e. (which : Which) → e.0 ≡ load.Disk which
      → ((which ≡ journal_on b) × OneFailed (disk_at (journal_on b) disks) (disk_at (journal_on b) e.1))
      ⊎ ((which ≡ Spool) × OneFailed disks.spool e.1.spool))
      → IfErr r (λ e. (which : Which) → e.0 ≡ load.Disk which
      → FailedToRead g (λ at. disk_at at disks) (λ at. disk_at at e.1) which)
  failed_end (Ok x) failed = tt
  failed_end (Err e) failed = λ which is. elim (failed which is) [
    | inl at ↦ failed_at g (λ at. disk_at at disks) (λ at. disk_at at e.1) (journal_on b) which at.0 at.1
    | inr at ↦ failed_at g (λ at. disk_at at disks) (λ at. disk_at at e.1) Spool which at.0 at.1
  ]

  module _ (yes : IsTrue g.tells) (names : b ≡ is_second (bytes Root)) where
    abbrev Faults : Answer → Type 0
    Faults r = IfErr r (λ e. (e.0 ≡ load.Memory want) ⊎ IsBytesFault (journal_on b) (bytes (journal_on b)) (bytes Spool) e.0)

    bad_end : (fault : LoadFault) → (fault ≡ load.Memory want) ⊎ IsBytesFault (journal_on b) (bytes (journal_on b)) (bytes Spool) fault
        → IsLoadFault bytes fault
    bad_end fault (inl memory) = inl (inr memory)
    bad_end fault (inr bad) = read_fault bytes b fault names bad

    fault_end : (r : Answer) → Faults r → IfErr r (λ e. IsLoadFault bytes e.0)
    fault_end (Ok x) bad = tt
    fault_end (Err e) bad = bad_end e.0 bad

    never_end : (r : Answer) → Faults r → (host : Host) → IsToldHost bytes host
        → IfErr r (λ e. (which : Which) (place : ℕ) → e.0 ≡ load.NotNqs which place → ⊥)
    never_end (Ok x) bad host told = tt
    never_end (Err e) bad host told = load_not bytes host e.0 told (bad_end e.0 bad)

    module _ (quiet : (which : Which) → IsQuiet (histories_of g.history disks which)) where
      tells_end : (r : Answer) → IfOk r (λ x. AreOpened (journal_in b x.0) x.0.spool (content x.1)) → IfOk r (λ x. x.0.on_second ≡ b)
          → Roots r → Rests r → IfOk r (λ x. Tells x.0 (content x.1))
      tells_end (Ok x) opened on is rests =
          let same = ap g.history is ∙ read.same yes in
          let resting = subst IsQuiet (sym (history_on (not b) x.0 ∙ ap g.history rests)) (quiet (journal_on (not b))) in
          opened_tells x.0 (content x.1) (subst (λ c. AreOpened (journal_in c x.0) x.0.spool (content x.1)) (sym on) opened)
          (ap (λ h. is_second (bytes_now h)) same ∙ sym names ∙ sym on) (subst IsQuiet (sym same) (quiet Root))
          (subst (λ c. IsQuiet (history_of x.0 (journal_on (not c)))) (sym on) resting)
      tells_end (Err e) opened on is rests = tt

    told_end : (r : Answer) → IfOk r (λ x. Tells x.0 (content x.1)) → Roots r → Actives r → Rests r → Spools r
        → IfOk r (λ x. IsToldHost bytes (content x.1))
    told_end (Ok x) tells is active rests spool =
        let reads = reads_end (Ok x) is active rests spool in
        let same : history_of x.0 ≡ histories_of g.history disks = λ j w. reads.same yes w j in
        subst (λ h. IsToldHost (contents h) (content x.1)) same (tells_read x.0 (content x.1) yes tells)
    told_end (Err e) tells is active rests spool = tt

    active_end : (r : Answer) → IfOk r (λ x. Tells x.0 (content x.1)) → Roots r → Actives r → Rests r → Spools r
        → IfOk r (λ x. IsActive bytes (active_of x.0))
    active_end (Ok x) tells is active rests spool =
        let reads = reads_end (Ok x) is active rests spool in
        let same : history_of x.0 ≡ histories_of g.history disks = λ j w. reads.same yes w j in
        subst (λ h. IsActive (contents h) (active_of x.0)) same (tells_active x.0 (content x.1) tells)
    active_end (Err e) tells is active rests spool = tt

    host_end : (r : Answer) → IfOk r (λ x. IsToldHost bytes (content x.1)) → (host : Host) → IsToldHost bytes host
        → IfOk r (λ x. content x.1 ≡ host)
    host_end (Ok x) one host told = one_told bytes (content x.1) host one told
    host_end (Err e) one host told = tt

  -- the whole of it, by what the opening of the journal does
  pub loads_end : (r : Answer) → (IsTrue g.tells → b ≡ is_second (bytes Root)) → (IsTrue g.tells → g.reads root ≤ g.reads disks.root + 1)
      → (IsTrue g.tells → (which : Which) → IsQuiet (histories_of g.history disks which))
      → OpensOn b root (disk_at (journal_on b) disks) (disk_at (journal_on (not b)) disks) disks.spool r → Loads disks r
  loads_end r names asked quiet o = record {
    tells = tells;
    active = λ yes. active_end yes (names yes) r (tells yes) o.root o.active o.resting o.spool;
    sound = o.sound;
    extents = o.extents;
    running = o.running;
    fault = λ yes. fault_end yes (names yes) r (o.fault yes);
    failed = failed_end r o.failed;
    told = λ yes. host_end yes (names yes) r (told_end yes (names yes) r (tells yes) o.root o.active o.resting o.spool);
    never = λ yes plain is. never_end yes (names yes) r (o.fault yes) is.host is.is;
    reads = reads_end r o.root o.active o.resting o.spool;
    asks = asks_end r names asked o.root o.twice o.resting o.once;
  }
    where
      tells : IsTrue g.tells → IfOk r (λ x. Tells x.0 (content x.1))
      tells told = tells_end told (names told) (quiet told) r (o.opened told) o.named o.root o.resting
