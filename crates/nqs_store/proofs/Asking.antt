-- How often the disks of a host are asked for bytes or for a length, by what is done to each.
use Rattle.std.proofs.Common.{◌≡◌, ◌≤◌, ◌+◌, ℕ, Bool, true, false, not, IsTrue, sym, ap, subst, ◌∙◌, arith}
use Rattle.nqs_types.specs.declared.world.Which.{Which}
use Rattle.nqs_types.specs.declared.world.Which.TheVariants.{Root, First, Second, Spool}
use Rattle.nqs_outside.specs.declared.disk.Disk as disk
use Rattle.nqs_journal.specs.Open as journal
use Rattle.nqs_rules.specs.Journals.{journal_on}
use Rattle.nqs_spool.specs.Spooled as spools
use Rattle.nqs_store.specs.Reads as reads
use Rattle.nqs_store.specs.Reads.{of_spool, of_reading}
use Rattle.nqs_store.specs.Stores.{disk_of, pick, AsksAtMost, AsksNone}
use Rattle.nqs_store.specs.declared.store.Store.{Store}
use Rattle.nqs_store.proofs.EachDisk.{each_disk}

module _ {D : Type 0} (g : disk.Ghosts D) where
  -- a disk that nothing was done to
  no_more : (old now : D) (times : ℕ) → now ≡ old → g.reads now ≤ g.reads old + times
  no_more old now times is = subst (λ d. g.reads d ≤ g.reads old + times) (sym is) (omega arith)

  -- the root alone was asked
  pub asks_root : (old now : Which → D) (b : Bool) → (IsTrue g.tells → g.reads (now Root) ≤ g.reads (old Root) + 1)
      → now First ≡ old First → now Second ≡ old Second → now Spool ≡ old Spool → reads.AsksAtMost g old now (of_reading b)
  asks_root old now b root first second spool = λ yes.
      each_disk (λ w. g.reads (now w) ≤ g.reads (old w) + of_reading b w) (root yes) (no_more _ _ _ first) (no_more _ _ _ second) (no_more _ _ _ spool)

  -- the root, the journal that it names, and the spool were
  pub asks_each : (old now : Which → D) (b : Bool) → (IsTrue g.tells → g.reads (now Root) ≤ g.reads (old Root) + 1)
      → (IsTrue g.tells → g.reads (now (journal_on b)) ≤ g.reads (old (journal_on b)) + 2)
      → now (journal_on (not b)) ≡ old (journal_on (not b))
      → (IsTrue g.tells → g.reads (now Spool) ≤ g.reads (old Spool) + 1) → reads.AsksAtMost g old now (of_reading b)
  asks_each old now true root active rest spool = λ yes.
      each_disk (λ w. g.reads (now w) ≤ g.reads (old w) + of_reading true w) (root yes) (no_more _ _ _ rest) (active yes) (spool yes)
  asks_each old now false root active rest spool = λ yes.
      each_disk (λ w. g.reads (now w) ≤ g.reads (old w) + of_reading false w) (root yes) (active yes) (no_more _ _ _ rest) (spool yes)

  -- what the root names is the one or the other
  pub asks_named : (old now : Which → D) (b c : Bool) → (IsTrue g.tells → b ≡ c) → reads.AsksAtMost g old now (of_reading b)
      → reads.AsksAtMost g old now (of_reading c)
  asks_named old now b c same asks = λ yes. subst (λ d. (w : Which) → g.reads (now w) ≤ g.reads (old w) + of_reading d w) (same yes) (asks yes)

module _ {D : Type 0} {g : disk.Ghosts D} where
  -- the spool alone was asked
  pub asks_spool : (old now : Store D g) (times : ℕ) → disk_of Root now ≡ disk_of Root old → disk_of First now ≡ disk_of First old
      → disk_of Second now ≡ disk_of Second old
      → (IsTrue g.tells → g.reads (disk_of Spool now) ≤ g.reads (disk_of Spool old) + times) → AsksAtMost old now (of_spool times)
  asks_spool old now times root first second spool = λ yes.
      each_disk (λ w. g.reads (disk_of w now) ≤ g.reads (disk_of w old) + of_spool times w) (no_more g _ _ _ root) (no_more g _ _ _ first)
      (no_more g _ _ _ second) (spool yes)

  pub asks_same : (old : Store D g) (times : Which → ℕ) → AsksAtMost old old times
  asks_same old times = λ yes w. omega arith

  -- no disk was

  pub none_same : (old now : Store D g) → ((w : Which) → disk_of w now ≡ disk_of w old) → AsksNone old now
  none_same old now same = λ yes w. ap g.reads (same w)

  pub none_then : (a b c : Store D g) → AsksNone a b → AsksNone b c → AsksNone a c
  none_then a b c one two = λ yes w. two yes w ∙ one yes w

  pub none_after : (a b c : Store D g) → AsksNone b c → ((w : Which) → disk_of w b ≡ disk_of w a) → AsksNone a c
  none_after a b c later same = λ yes w. later yes w ∙ ap g.reads (same w)

  -- neither the root, nor one of the journals, nor the other one, nor the spool
  pub none_by : (old now : Store D g) (b : Bool) → (IsTrue g.tells → g.reads now.root ≡ g.reads old.root)
      → (IsTrue g.tells → g.reads (journal.disk_of (pick b now.first now.second)) ≡ g.reads (journal.disk_of (pick b old.first old.second)))
      → (IsTrue g.tells → g.reads (journal.disk_of (pick (not b) now.first now.second)) ≡ g.reads (journal.disk_of (pick (not b) old.first old.second)))
      → (IsTrue g.tells → g.reads (spools.disk_of now.spool) ≡ g.reads (spools.disk_of old.spool)) → AsksNone old now
  none_by old now true root one other spool = λ yes.
      each_disk (λ w. g.reads (disk_of w now) ≡ g.reads (disk_of w old)) (root yes) (other yes) (one yes) (spool yes)
  none_by old now false root one other spool = λ yes.
      each_disk (λ w. g.reads (disk_of w now) ≡ g.reads (disk_of w old)) (root yes) (one yes) (other yes) (spool yes)
