-- What a host's disks tell, from what the root's byte, a journal and the spool do.
use Rattle.std.proofs.Common.{◌≡◌, inr, ℕ, Bool, not, IsTrue, List, sym, ap, subst, arith}
use Rattle.nqs_types.specs.declared.world.Which.{Which}
use Rattle.nqs_types.specs.declared.world.Which.TheVariants.{Root, Spool}
use Rattle.nqs_outside.specs.History.{content, IsQuiet}
use Rattle.nqs_outside.specs.Reads as one
use Rattle.nqs_outside.specs.declared.disk.Disk as disk
use Rattle.nqs_rules.specs.Journals.{is_second, journal_on}
use Rattle.nqs_store.specs.Told.{Host}
use Rattle.nqs_store.specs.Active.{IsActive}
use Rattle.nqs_store.specs.Disks.{contents}
use Rattle.nqs_store.specs.Images.{AreRead, IsToldHost}
use Rattle.nqs_store.specs.Opens.{AreOpened}
use Rattle.nqs_store.specs.Faults.{IsBytesFault, IsLoadFault}
use Rattle.nqs_store.specs.declared.fault.LoadFault.{LoadFault}
use Rattle.nqs_store.specs.Reads.{OnlyReads, FailedToRead}
use Rattle.nqs_store.specs.Stores.{Tells, history_of, active_of, journal_in}
use Rattle.nqs_store.specs.declared.store.Store.{Store}
use Rattle.nqs_store.proofs.TellsNow.{active_stands, active_image, told_host}

-- bytes whose root names the journal tell what that journal tells
pub read_told : (bytes : Which → List ℕ) (b : Bool) (host : Host) → b ≡ is_second (bytes Root) → AreRead (bytes (journal_on b)) (bytes Spool) host
    → IsToldHost bytes host
read_told bytes b host names is = subst (λ c. AreRead (bytes (journal_on c)) (bytes Spool) host) names is

pub read_fault : (bytes : Which → List ℕ) (b : Bool) (fault : LoadFault) → b ≡ is_second (bytes Root)
    → IsBytesFault (journal_on b) (bytes (journal_on b)) (bytes Spool) fault → IsLoadFault bytes fault
read_fault bytes b fault names is = inr (subst (λ c. IsBytesFault (journal_on c) (bytes (journal_on c)) (bytes Spool) fault) names is)

module _ {D : Type 0} (g : disk.Ghosts D) where
  -- nothing was done to a disk
  pub one_same : (old now : D) → now ≡ old → one.OnlyReads g old now
  one_same old now is = record {
    same = λ yes. ap g.history is;
    fuse = λ yes i. ap (λ d. g.fails d i) is;
    ends = λ yes i. ap (λ d. g.ends d i) is;
    starved = λ yes. ap g.starved is;
    later = omega (arith, ap g.faults is);
  }

  pub each_reads : (old now : Which → D) → ((w : Which) → one.OnlyReads g (old w) (now w)) → OnlyReads g old now
  each_reads old now each = record {
    same = λ yes w. (each w).same yes;
    fuse = λ yes w. (each w).fuse yes;
    starved = λ yes w. (each w).starved yes;
    later = λ w. (each w).later;
  }

  pub failed_at : (old now : Which → D) (w which : Which) → which ≡ w → one.FailedToRead g (old w) (now w) → FailedToRead g old now which
  failed_at old now w which at is = subst (FailedToRead g old now) (sym at) is

module _ {D : Type 0} {g : disk.Ghosts D} (store : Store D g) where
  -- a store over an open journal and an open spool, whose root names that journal, tells what they
  -- tell
  pub opened_tells : (host : Host) → AreOpened (journal_in store.on_second store) store.spool host
      → is_second (content (history_of store Root)) ≡ store.on_second
      → IsQuiet (history_of store Root) → IsQuiet (history_of store (journal_on (not store.on_second))) → Tells store host
  opened_tells host is named root rest = record {
    form = is.form;
    snapshot = is.snapshot;
    payloads = is.payloads;
    is = is.is;
    journal = is.journal;
    many = is.many;
    old = is.old;
    records = is.records;
    named = named;
    root = root;
    rest = rest;
    spool = is.spool;
  }

  -- what a store tells is what a read of its disks tells
  pub tells_read : (host : Host) → IsTrue g.tells → Tells store host → IsToldHost (contents (history_of store)) host
  tells_read host telling tells = told_host store host tells (contents (history_of store)) tells.named (active_stands store host tells)
      (record { apart = tells.spool.live.apart; within = tells.spool.within telling })

  pub tells_active : (host : Host) → Tells store host → IsActive (contents (history_of store)) (active_of store)
  tells_active host tells = active_image store host tells (contents (history_of store)) tells.named
      (active_stands store host tells)
