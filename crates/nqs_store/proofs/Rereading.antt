-- What a store tells when its root, one of its journals and its spool were read again.
use Rattle.std.proofs.Common.{◌≡◌, ◌∙◌, ℕ, Bool, true, false, not, if◌then◌else◌, List, sym, ap, subst}
use Rattle.nqs_base.specs.declared.extent.Extent.{Extent}
use Rattle.nqs_types.specs.declared.world.Which.{Which}
use Rattle.nqs_types.specs.declared.world.Which.TheVariants.{Root}
use Rattle.nqs_outside.specs.History.{content, IsQuiet}
use Rattle.nqs_outside.specs.declared.disk.Disk as disk
use Rattle.nqs_journal.specs.Open as journal
use Rattle.nqs_journal.specs.declared.journal.Journal.{Journal}
use Rattle.nqs_rules.specs.Journals.{is_second, journal_on}
use Rattle.nqs_spool.specs.Spooled as spool
use Rattle.nqs_spool.specs.declared.spool.Spool.{Spool}
use Rattle.nqs_store.specs.Told.{Host}
use Rattle.nqs_store.specs.Active.{Active}
use Rattle.nqs_store.specs.Stores.{Tells, history_of, active_of, journal_in, pick}
use Rattle.nqs_store.specs.declared.store.Store.{Store}

-- what holds of the one and of the other
pub either_one : (P : Bool → Type 0) → P false → P true → (b : Bool) → P b
either_one P first second true = second
either_one P first second false = first

module _ {D : Type 0} {g : disk.Ghosts D} where
  -- the active journal runs, as a journal that was read again runs as before
  pub first_runs : (b stopped : Bool) (first second now : Journal D g) → journal.is_stopped now ≡ journal.is_stopped first
      → (stopped ≡ false → journal.is_stopped (if b then second else first) ≡ false) → stopped ≡ false
      → journal.is_stopped (if b then second else now) ≡ false
  first_runs true stopped first second now same was is = was is
  first_runs false stopped first second now same was is = same ∙ was is

  pub second_runs : (b stopped : Bool) (first second now : Journal D g) → journal.is_stopped now ≡ journal.is_stopped second
      → (stopped ≡ false → journal.is_stopped (if b then second else first) ≡ false) → stopped ≡ false
      → journal.is_stopped (if b then now else first) ≡ false
  second_runs true stopped first second now same was is = same ∙ was is
  second_runs false stopped first second now same was is = was is

  -- which journal is active, how many records it has, and whether it is old
  abbrev active_in : Bool → (first second : Journal D g) → Active
  active_in b first second = record { second = b; records = journal.count_of (pick b first second); is_old = journal.is_old (pick b first second) }

  pub active_again : (old : Store D g) (first second : Journal D g)
      → ((b : Bool) → journal.count_of (pick b first second) ≡ journal.count_of (journal_in b old))
      → ((b : Bool) → journal.is_old (pick b first second) ≡ journal.is_old (journal_in b old))
      → active_in old.on_second first second ≡ active_of old
  active_again old first second count age = λ j. record { second = old.on_second; records = count old.on_second j; is_old = age old.on_second j }

  module _ (old : Store D g) (root : D) (first second : Journal D g) (kept : Spool D g)
      (running : old.stopped ≡ false → journal.is_stopped (if old.on_second then second else first) ≡ false) where
    -- the store with what was read again
    abbrev now : Store D g
    now = record {
      root = root;
      first = first;
      second = second;
      spool = kept;
      on_second = old.on_second;
      stopped = old.stopped;
      running = running;
    }

    pub tells_again : ((w : Which) → history_of now w ≡ history_of old w)
        → ((b : Bool) (front : List ℕ) (payloads : List (List ℕ)) → journal.Tells (journal_in b old) front payloads
        → journal.Tells (journal_in b now) front payloads)
        → ((b : Bool) → journal.count_of (journal_in b now) ≡ journal.count_of (journal_in b old))
        → ((b : Bool) → journal.is_old (journal_in b now) ≡ journal.is_old (journal_in b old))
        → ((live : List Extent) → spool.Tells old.spool live → spool.Tells kept live) → (host : Host) → Tells old host → Tells now host
    tells_again same stays count age holds host tells = record {
      form = tells.form;
      snapshot = tells.snapshot;
      payloads = tells.payloads;
      is = tells.is;
      journal = stays old.on_second _ _ tells.journal;
      many = tells.many ∙ sym (count old.on_second);
      old = age old.on_second ∙ tells.old;
      records = tells.records;
      named = ap (λ h. is_second (content h)) (same Root) ∙ tells.named;
      root = subst IsQuiet (sym (same Root)) tells.root;
      rest = subst IsQuiet (sym (same (journal_on (not old.on_second)))) tells.rest;
      spool = holds _ tells.spool;
    }
