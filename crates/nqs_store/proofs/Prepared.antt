-- A store for whose next change memory was taken is on the same disks, and tells the same.
use Rattle.std.proofs.Common.{rules, ◌≡◌, ◌⊎◌, inl, inr, ◌∙◌, ◌≤◌, ℕ, not, IsTrue, List, OnOk, OnErr, sym, ap, subst}
use Rattle.std.specs.declared.result.Result.{Result}
use Rattle.nqs_base.specs.Extents.{extent_bytes}
use Rattle.nqs_types.specs.declared.change.Change.{Change}
use Rattle.nqs_rules.specs.Applied.{applied}
use Rattle.nqs_rules.specs.Filled.{filled}
use Rattle.nqs_state.specs.State.{Plain}
use Rattle.nqs_base.specs.declared.extent.Extent.{Extent}
use Rattle.nqs_types.specs.declared.world.Which.{Which}
use Rattle.nqs_outside.specs.History.{History, IsQuiet, content}
use Rattle.nqs_outside.specs.declared.disk.Disk as disk
use Rattle.nqs_journal.specs.Open as journal
use Rattle.nqs_journal.specs.Either.{front_of}
use Rattle.nqs_spool.specs.Spooled as spool
use Rattle.nqs_rules.specs.Journals.{is_second, journal_on}
use Rattle.nqs_rules.specs.Plain.{map_state}
use Rattle.nqs_store.specs.Active.{Active}
use Rattle.nqs_store.specs.Told.{Host}
use Rattle.nqs_store.specs.Live.{live}
use Rattle.nqs_store.specs.Stores.{Tells, disk_of, history_of, fails_of, is_starved, plain_of, active_of, journal_in, pick}
use Rattle.nqs_store.specs.declared.store.Store.{Store}
use Rattle.nqs_store.specs.Hosts.{StopsShort}
use Rattle.nqs_store.specs.Plan.{CommitsBy}
use Rattle.nqs_store.specs.Spells.{Spells}
use Rattle.nqs_store.specs.Commits.{IsKept, IsCutAt, Keeping}
use Rattle.nqs_store.specs.Calls.{MayStop, IsLeft, KeepsChange, Commits}
use Rattle.nqs_store.proofs.EachDisk.{each_disk}
use Rattle.nqs_store.proofs.Kept.{stops_since}

module _ {D : Type 0} {g : disk.Ghosts D} (old now : Store D g) (root : now.root ≡ old.root) (first : now.first ≡ old.first) (second : now.second ≡ old.second)
    (on : now.on_second ≡ old.on_second) (same : spool.disk_of now.spool ≡ spool.disk_of old.spool) where
  pub disks_same : (w : Which) → disk_of w now ≡ disk_of w old
  disks_same = each_disk (λ w. disk_of w now ≡ disk_of w old) root (ap journal.disk_of first) (ap journal.disk_of second) same

  pub history_path : history_of now ≡ history_of old
  history_path = λ j w. g.history (disks_same w j)

  pub fails_path : fails_of now ≡ fails_of old
  fails_path = λ j w. g.fails (disks_same w j)

  pub journal_path : journal_in now.on_second now ≡ journal_in old.on_second old
  journal_path = λ j. pick (on j) (first j) (second j)

  pub active_path : active_of now ≡ active_of old
  active_path = λ j. record { second = on j; records = journal.count_of (journal_path j); is_old = journal.is_old (journal_path j) }

  pub plain_path : (host : Host) → plain_of now host ≡ plain_of old host
  plain_path host = ap (λ d. map_state (extent_bytes (content (g.history d))) host) same

  -- what was told is told
  pub tells_same : (host : Host) → ((l : List Extent) → spool.Tells old.spool l → spool.Tells now.spool l) → Tells old host → Tells now host
  tells_same host room tells = record {
    form = tells.form;
    snapshot = tells.snapshot;
    payloads = tells.payloads;
    is = tells.is;
    journal = subst (λ j. journal.Tells j (front_of tells.form tells.snapshot) tells.payloads) (sym journal_path) tells.journal;
    many = tells.many ∙ ap journal.count_of (sym journal_path);
    old = ap journal.is_old journal_path ∙ tells.old;
    records = tells.records;
    named = ap (λ d. is_second (content (g.history d))) root ∙ tells.named ∙ sym on;
    root = subst (λ d. IsQuiet (g.history d)) (sym root) tells.root;
    rest = subst (λ (h : Which → History). IsQuiet (h (journal_on (not now.on_second)))) (sym history_path)
        (subst (λ b. IsQuiet (history_of old (journal_on (not b)))) (sym on) tells.rest);
    spool = room (live host) tells.spool;
  }

  module _ {E : Type 0} (r : Result (Unit {0}) E) (new : Store D g) (puts : List (List ℕ)) where
    pub made_from : OnOk r (IsKept (active_of now) (fails_of now) puts (history_of now) (history_of new))
        → OnOk r (IsKept (active_of old) (fails_of old) puts (history_of old) (history_of new))
    made_from is = subst (λ f. OnOk r (IsKept (active_of old) f puts (history_of old) (history_of new))) fails_path
        (subst (λ (h : Which → History). OnOk r (IsKept (active_of old) (fails_of now) puts h (history_of new))) history_path
        (subst (λ a. OnOk r (IsKept a (fails_of now) puts (history_of now) (history_of new))) active_path is))

    pub broken_from : OnErr r (CommitsBy StopsShort (active_of now) puts (history_of now) (history_of new))
        → OnErr r (CommitsBy StopsShort (active_of old) puts (history_of old) (history_of new))
    broken_from is = subst (λ (h : Which → History). OnErr r (CommitsBy StopsShort (active_of old) puts h (history_of new))) history_path
        (subst (λ a. OnErr r (CommitsBy StopsShort a puts (history_of now) (history_of new))) active_path is)

    pub moments_from : (host : Host) (f : Plain → Plain) → Keeping (active_of now) puts (history_of now) (history_of new) (plain_of now host)
        (f (plain_of now host))
        → Keeping (active_of old) puts (history_of old) (history_of new) (plain_of old host) (f (plain_of old host))
    moments_from host f is = subst (λ p. Keeping (active_of old) puts (history_of old) (history_of new) p (f p)) (plain_path host)
        (subst (λ (h : Which → History). Keeping (active_of old) puts h (history_of new) (plain_of now host) (f (plain_of now host))) history_path
        (subst (λ a. Keeping a puts (history_of now) (history_of new) (plain_of now host) (f (plain_of now host))) active_path is))

    pub cut_from : (host : Host) (f : Plain → Plain) (which : Which) → IsTrue (is_starved new which)
        ⊎ IsCutAt (active_of now) (fails_of now) puts (history_of now) (history_of new) (plain_of now host) (f (plain_of now host)) which
        → IsTrue (is_starved new which) ⊎ IsCutAt (active_of old) (fails_of old) puts (history_of old) (history_of new) (plain_of old host)
        (f (plain_of old host)) which
    cut_from host f which (inl starves) = inl starves
    cut_from host f which (inr fell) = inr (subst (λ p. IsCutAt (active_of old) (fails_of old) puts (history_of old) (history_of new) p (f p) which)
        (plain_path host)
        (subst (λ l. IsCutAt (active_of old) l puts (history_of old) (history_of new) (plain_of now host) (f (plain_of now host)) which) fails_path
        (subst (λ (h : Which → History). IsCutAt (active_of old) (fails_of now) puts h (history_of new) (plain_of now host)
        (f (plain_of now host)) which) history_path
        (subst (λ a. IsCutAt a (fails_of now) puts (history_of now) (history_of new) (plain_of now host) (f (plain_of now host)) which) active_path fell))))

  -- nothing happened
  pub is_left : now.stopped ≡ old.stopped → ((host : Host) → Tells old host → Tells now host) → IsLeft old now
  is_left stopped tells = record { same = disks_same; stopped = stopped; active = active_path; tells = tells }

  -- what the next call leaves
  module _ {E : Type 0} (failed : Which → E) (r : Result (Unit {0}) E) (new : Store D g) where
    pub stops_from : MayStop now new failed r → MayStop old new failed r
    stops_from = stops_since old now new failed r (λ which. subst (λ d. g.faults d ≤ g.faults (disk_of which now)) (disks_same which) (stays which))
        (λ told which i. ap (λ d. g.fails d i) (disks_same which))
      where
        stays : (which : Which) → g.faults (disk_of which now) ≤ g.faults (disk_of which now)
        stays which = search rules

    module _ (change : Change Extent) (puts : List (List ℕ)) (host : Host) (tells_now : Tells old host → Tells now host) where
      pub commits_from : Commits now new change puts host failed r → Commits old new change puts host failed r
      commits_from m = record {
        made = λ told. made_from r new puts (m.made told);
        broken_off = λ told. broken_from r new puts (m.broken_off told);
        cut = λ told tells which is. cut_from r new puts host (applied (filled change puts)) which (m.cut told (tells_now tells) which is);
        any_moment = λ told tells. moments_from r new puts host (applied (filled change puts)) (m.any_moment told (tells_now tells));
      }

      pub spelled_from : (c : Change (List ℕ)) → (IsTrue g.tells → Tells now host → OnOk r (Spells (active_of now) c (history_of now) (history_of new)))
          → IsTrue g.tells → Tells old host → OnOk r (Spells (active_of old) c (history_of old) (history_of new))
      spelled_from c is told tells = subst (λ (h : Which → History). OnOk r (Spells (active_of old) c h (history_of new))) history_path
          (subst (λ (a : Active). OnOk r (Spells a c (history_of now) (history_of new))) active_path (is told (tells_now tells)))

      pub keeps_from : (after : Change Extent) (next : Active → Active) → KeepsChange now new change after puts host (next (active_of now)) r
          → KeepsChange old new change after puts host (next (active_of old)) r
      keeps_from after next k = record {
        stands = k.stands;
        shape = k.shape;
        filled = λ told tells. k.filled told (tells_now tells);
        kept = λ told tells. subst (λ p. OnOk r (plain_of new host ≡ p)) (plain_path host) (k.kept told (tells_now tells));
        told = λ told tells. k.told told (tells_now tells);
        active = subst (λ a. OnOk r (active_of new ≡ next a)) active_path k.active;
        plain = λ told tells. subst (λ p. OnOk r (plain_of new (applied after host) ≡ applied (filled change puts) p)) (plain_path host)
            (k.plain told (tells_now tells));
      }
