-- What holds of each of a host's disks.
use Rattle.std.proofs.Common.{◌≡◌, ◌≢◌, inl, inr, Bool, true, false, not, if◌then◌else◌, refl, ap}
use Rattle.nqs_types.specs.declared.world.Which.{Which}
use Rattle.nqs_types.specs.declared.world.Which.TheVariants.{Root, First, Second, Spool}
use Rattle.nqs_outside.specs.History.{History}
use Rattle.nqs_outside.specs.declared.disk.Disk as disk
use Rattle.nqs_journal.specs.Open as journal
use Rattle.nqs_rules.specs.Journals.{journal_on}
use Rattle.nqs_store.specs.Hosts.{same_disk}
use Rattle.nqs_store.specs.Stores.{disk_of, history_of, journal_in}
use Rattle.nqs_store.specs.declared.store.Store.{Store}
use Rattle.nqs_store.proofs.HostRuns.{same_self, same_or}

pub each_disk : (P : Which → Type 0) → P Root → P First → P Second → P Spool → (which : Which) → P which
each_disk P root first second spool Root = root
each_disk P root first second spool First = first
each_disk P root first second spool Second = second
each_disk P root first second spool Spool = spool

-- the root, a journal's disk, that of the other, and the spool
pub each_of : (b : Bool) (P : Which → Type 0) → P Root → P (journal_on b) → P (journal_on (not b)) → P Spool → (which : Which) → P which
each_of true P root active other spool = each_disk P root other active spool
each_of false P root active other spool = each_disk P root active other spool

pub root_apart : (b : Bool) → Root ≢ journal_on b
root_apart true is = let no : ⊥ = cc in no
root_apart false is = let no : ⊥ = cc in no

pub spool_apart : (b : Bool) → Spool ≢ journal_on b
spool_apart true is = let no : ⊥ = cc in no
spool_apart false is = let no : ⊥ = cc in no

pub journal_apart : (b : Bool) → journal_on b ≢ Spool
journal_apart true is = let no : ⊥ = cc in no
journal_apart false is = let no : ⊥ = cc in no

pub root_is_no_journal : (b : Bool) → journal_on b ≢ Root
root_is_no_journal true is = let no : ⊥ = cc in no
root_is_no_journal false is = let no : ⊥ = cc in no

pub journals_apart : (b : Bool) → journal_on b ≢ journal_on (not b)
journals_apart true is = let no : ⊥ = cc in no
journals_apart false is = let no : ⊥ = cc in no

-- the same disks, but for the history of one
abbrev pub with_disk : Which → History → (Which → History) → Which → History
with_disk v h old w = if same_disk w v then h else old w

pub at_disk : (v : Which) (h : History) (old : Which → History) → with_disk v h old v ≡ h
at_disk v h old = ap (λ (b : Bool). if b then h else old v) (same_self v)

pub but_disk : (v : Which) (h : History) (old : Which → History) (w : Which) → w ≢ v → with_disk v h old w ≡ old w
but_disk v h old w other = elim (same_or w v) [
  | inl is ↦ absurd (other is)
  | inr apart ↦ ap (λ (b : Bool). if b then h else old w) apart.1
]

-- what holds of each history holds of each with another of one
pub rest_of : (v : Which) (h : History) (old : Which → History) (P : History → Type 0) → ((w : Which) → P (old w)) → P h → (w : Which)
    → P (with_disk v h old w)
rest_of v h old P was now w = by (same_disk w v)
  where
    by : (b : Bool) → P (if b then h else old w)
    by true = now
    by false = was w

module _ {D : Type 0} {g : disk.Ghosts D} where
  -- a journal stands on its disk
  pub stands_on : (second : Bool) (store : Store D g) → disk_of (journal_on second) store ≡ journal.disk_of (journal_in second store)
  stands_on true store = refl
  stands_on false store = refl

  pub history_on : (second : Bool) (store : Store D g) → history_of store (journal_on second) ≡ journal.history_of (journal_in second store)
  history_on second store = ap g.history (stands_on second store)

  pub journal_kept : (old now : Store D g) (second : Bool) → now.first ≡ old.first → now.second ≡ old.second
      → history_of now (journal_on second) ≡ history_of old (journal_on second)
  journal_kept old now true same same' = ap journal.history_of same'
  journal_kept old now false same same' = ap journal.history_of same
