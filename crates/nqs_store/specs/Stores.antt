-- What a store tells.
use Rattle.std.specs.Prelude.{◌≡◌, ℕ, Bool, false, true, not, List, length, Some}
use Rattle.nqs_base.specs.Extents.{extent_bytes}
use Rattle.nqs_state.specs.State.{Plain}
use Rattle.nqs_base.specs.declared.extent.Extent.{Extent}
use Rattle.nqs_types.specs.declared.world.Which.{Which}
use Rattle.nqs_types.specs.declared.world.Which.TheVariants.{Root, First, Second, Spool}
use Rattle.nqs_rules.specs.Plain.{map_state}
use Rattle.nqs_outside.specs.History.{History, IsQuiet, content}
use Rattle.nqs_outside.specs.declared.disk.Disk as disk
use Rattle.nqs_journal.specs.Either.{front_of, version_of, is_old_form, IsSnapshot}
use Rattle.nqs_journal.specs.Open as journal
use Rattle.nqs_journal.specs.declared.journal.Journal.{Journal}
use Rattle.nqs_rules.specs.Journals.{is_second, journal_on}
use Rattle.nqs_spool.specs.Spooled as spool
use Rattle.nqs_store.specs.Active.{Active}
use Rattle.nqs_store.specs.Told.{Host, told_by}
use Rattle.nqs_store.specs.Live.{live}
use Rattle.nqs_store.specs.Reads as reads
use Rattle.nqs_store.specs.declared.store.Store.{Store}

module _ {D : Type 0} {g : disk.Ghosts D} where
  -- one of the store's disks
  abbrev pub disk_of : Which → Store D g → D
  disk_of Root store = store.root
  disk_of First store = journal.disk_of store.first
  disk_of Second store = journal.disk_of store.second
  disk_of Spool store = spool.disk_of store.spool

  -- what one of its disks did
  abbrev pub history_of : Store D g → Which → History
  history_of store which = g.history (disk_of which store)

  -- an earlier commit failed
  abbrev pub is_stopped : Store D g → Bool
  is_stopped store = store.stopped

  -- of two journals that on `second`, or the other
  abbrev pub pick : Bool → Journal D g → Journal D g → Journal D g
  pick false first second = first
  pick true first second = second

  -- the journal on `second`, or the other
  abbrev pub journal_in : Bool → Store D g → Journal D g
  journal_in second store = pick second store.first store.second

  -- its active journal
  abbrev pub active_of : Store D g → Active
  active_of store = record {
    second = store.on_second;
    records = journal.count_of (journal_in store.on_second store);
    is_old = journal.is_old (journal_in store.on_second store);
  }

  -- The root names the active journal, whose records tell this host, and its live extents are those
  -- of the spool. Nothing is pending on any of the disks.
  pub record Tells (store : Store D g) (host : Host) : Type 0 where
    pub form : ℕ
    pub snapshot : List ℕ
    pub payloads : List (List ℕ)
    pub is : IsSnapshot form snapshot
    pub journal : journal.Tells (journal_in store.on_second store) (front_of form snapshot) payloads
    pub many : length payloads ≡ (active_of store).records
    pub old : (active_of store).is_old ≡ is_old_form form
    pub records : told_by (version_of form) snapshot payloads ≡ Some host
    pub named : is_second (content (history_of store Root)) ≡ store.on_second
    pub root : IsQuiet (history_of store Root)
    pub rest : IsQuiet (history_of store (journal_on (not store.on_second)))
    pub spool : spool.Tells store.spool (live host)

  -- the bytes of an extent
  abbrev pub bytes_of : Store D g → Extent → List ℕ
  bytes_of store extent = extent_bytes (content (g.history (spool.disk_of store.spool))) extent

  -- a host with the bytes of its extents
  abbrev pub plain_of : Store D g → Host → Plain
  plain_of store host = map_state (bytes_of store) host

  -- which of its disks' calls are to fail
  abbrev pub fails_of : Store D g → Which → ℕ → Bool
  fails_of store which = g.fails (disk_of which store)

  -- from which of its disks' calls on each one is to fail
  abbrev pub ends_of : Store D g → Which → ℕ → Bool
  ends_of store which = g.ends (disk_of which store)

  -- a failed call of one of its disks wasn't made
  abbrev pub is_starved : Store D g → Which → Bool
  is_starved store which = g.starved (disk_of which store)

  -- the store only read its disks
  abbrev pub OnlyReads : (old now : Store D g) → Type 0
  OnlyReads old now = reads.OnlyReads g (λ which. disk_of which old) (λ which. disk_of which now)

  -- a read of one of its disks failed
  abbrev pub FailedToRead : (old now : Store D g) → Which → Type 0
  FailedToRead old now = reads.FailedToRead g (λ which. disk_of which old) (λ which. disk_of which now)

  -- the store asked its disks for bytes or for a length so often at most
  abbrev pub AsksAtMost : (old now : Store D g) → (Which → ℕ) → Type 0
  AsksAtMost old now = reads.AsksAtMost g (λ which. disk_of which old) (λ which. disk_of which now)

  -- it asked none of them
  abbrev pub AsksNone : (old now : Store D g) → Type 0
  AsksNone old now = reads.AsksNone g (λ which. disk_of which old) (λ which. disk_of which now)
