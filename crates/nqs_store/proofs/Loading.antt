-- Faults of a reading.
use Rattle.std.proofs.Common.{◌≡◌, inl, inr, ℕ, List, length, Some, refl, subst}
use Rattle.nqs_types.specs.declared.world.Which.{Which}
use Rattle.nqs_store.specs.Told.{Host, told_by}
use Rattle.nqs_spool.specs.Extents.{IsBadExtent}
use Rattle.nqs_store.specs.Live.{live}
use Rattle.nqs_journal.specs.declared.fault.JournalFault.{JournalFault}
use Rattle.nqs_journal.specs.declared.fault.JournalFault.TheVariants as journal
use Rattle.nqs_store.specs.Faults.{JournalIsAt, IsHostFault, IsExtentFault, IsReadFault}
use Rattle.nqs_store.specs.declared.fault.LoadFault.{LoadFault}
use Rattle.nqs_store.specs.declared.fault.LoadFault.TheVariants as load

-- a bad record of the journal
pub host_read : (on : Which) (version : ℕ) (snapshot : List ℕ) (payloads : List (List ℕ)) (spool : List ℕ) (fault : LoadFault)
    → IsHostFault on version snapshot payloads fault → IsReadFault on version snapshot payloads spool fault
host_read on version snapshot payloads spool (load.Disk which) bad = absurd bad
host_read on version snapshot payloads spool (load.NotNqs which place) bad = inl bad
host_read on version snapshot payloads spool (load.Memory memory) bad = tt

-- a bad extent of the host that is told
pub extent_read : (on : Which) (version : ℕ) (snapshot : List ℕ) (payloads : List (List ℕ)) (spool : List ℕ) (size : ℕ) (host : Host) (fault : LoadFault)
    → told_by version snapshot payloads ≡ Some host → size ≡ length spool → IsExtentFault size (live host) fault
    → IsReadFault on version snapshot payloads spool fault
extent_read on version snapshot payloads spool size host (load.Disk which) tells is bad = absurd bad
extent_read on version snapshot payloads spool size host (load.NotNqs which place) tells is bad =
    inr (bad.0, (host, tells, subst (λ n. IsBadExtent n (live host) place) is bad.1))
extent_read on version snapshot payloads spool size host (load.Memory memory) tells is bad = tt

-- only a failed call of the journal's disk is a failed call of a host's disk
pub journal_disk : (on : Which) (fault : JournalFault) (seen : LoadFault) (which : Which) → JournalIsAt on fault seen → seen ≡ load.Disk which
    → (fault ≡ journal.Disk) × (which ≡ on)
journal_disk on journal.Disk seen which at is = (refl, cc)
journal_disk on (journal.NotJournal place) seen which at is = let no : ⊥ = cc in absurd no
journal_disk on journal.TooLong seen which at is = absurd at
journal_disk on journal.Stopped seen which at is = absurd at
journal_disk on (journal.Memory memory) seen which at is = let no : ⊥ = cc in absurd no
