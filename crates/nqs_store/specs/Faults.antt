-- What the faults of a store say.
use Rattle.std.specs.Prelude.{◌≡◌, ◌⊎◌, ℕ, List, length, Some}
use Rattle.nqs_types.specs.declared.world.Which.TheVariants.{Root, First, Second, Spool}
use Rattle.nqs_base.specs.Want.{want}
use Rattle.nqs_base.specs.declared.extent.Extent.{Extent}
use Rattle.nqs_journal.specs.Either.{version_of, StandsBy}
use Rattle.nqs_rules.specs.Journals.{active}
use Rattle.nqs_types.specs.declared.world.Which.{Which}
use Rattle.nqs_journal.specs.Faults as faults
use Rattle.nqs_journal.specs.declared.fault.JournalFault.{JournalFault}
use Rattle.nqs_journal.specs.declared.fault.JournalFault.TheVariants as journal
use Rattle.nqs_store.specs.Told.{Host, told_by, IsUntoldBy}
use Rattle.nqs_spool.specs.Extents.{IsBadExtent}
use Rattle.nqs_store.specs.Live.{live}
use Rattle.nqs_store.specs.declared.fault.LoadFault.{LoadFault}
use Rattle.nqs_store.specs.declared.fault.LoadFault.TheVariants as load
use Rattle.nqs_store.specs.declared.fault.StoreFault.{StoreFault}
use Rattle.nqs_store.specs.declared.fault.StoreFault.TheVariants as store

-- the fault of a journal, on the disk that it stands on
abbrev pub JournalIsAt : Which → JournalFault → LoadFault → Type 0
JournalIsAt which journal.Disk fault = fault ≡ load.Disk which
JournalIsAt which (journal.NotJournal place) fault = fault ≡ load.NotNqs which place
JournalIsAt which journal.TooLong fault = ⊥
JournalIsAt which journal.Stopped fault = ⊥
JournalIsAt which (journal.Memory memory) fault = fault ≡ load.Memory want

-- why a snapshot, if there is one, and records tell no host, on the disk that they stand on; want
-- of memory is free
abbrev pub IsHostFault : Which → ℕ → List ℕ → List (List ℕ) → LoadFault → Type 0
IsHostFault on version snapshot payloads (load.Disk which) = ⊥
IsHostFault on version snapshot payloads (load.NotNqs which place) = (which ≡ on) × IsUntoldBy version snapshot payloads place
IsHostFault on version snapshot payloads (load.Memory memory) = Unit {0}

-- why a spool of so many bytes can't have these extents
abbrev pub IsExtentFault : ℕ → List Extent → LoadFault → Type 0
IsExtentFault size extents (load.Disk which) = ⊥
IsExtentFault size extents (load.NotNqs which place) = (which ≡ Spool) × IsBadExtent size extents place
IsExtentFault size extents (load.Memory memory) = Unit {0}

-- the snapshot and the records tell a host, of whose extents one is bad
abbrev pub IsSpoolFault : ℕ → List ℕ → List (List ℕ) → List ℕ → ℕ → Type 0
IsSpoolFault version snapshot payloads spool place =
    (host : Host) × (told_by version snapshot payloads ≡ Some host) × IsBadExtent (length spool) (live host) place

-- why a snapshot and records, on this disk, and a spool are no host's
abbrev pub IsReadFault : Which → ℕ → List ℕ → List (List ℕ) → List ℕ → LoadFault → Type 0
IsReadFault on version snapshot payloads spool (load.Disk which) = which ≡ Spool
IsReadFault on version snapshot payloads spool (load.NotNqs which place) =
    ((which ≡ on) × IsUntoldBy version snapshot payloads place) ⊎ ((which ≡ Spool) × IsSpoolFault version snapshot payloads spool place)
IsReadFault on version snapshot payloads spool (load.Memory memory) = Unit {0}

-- why the bytes of a journal on this disk, and those of a spool, are no host's: the journal has
-- none of the forms from this place on, or what it stands for is at fault
abbrev pub IsBytesFault : Which → (journal spool : List ℕ) → LoadFault → Type 0
IsBytesFault on bytes spool fault =
    ((journal : JournalFault) × faults.IsEitherLoadFault bytes journal × JournalIsAt on journal fault)
    ⊎ ((form : ℕ) × (snapshot : List ℕ) × (payloads : List (List ℕ)) × StandsBy bytes form snapshot payloads
    × IsReadFault on (version_of form) snapshot payloads spool fault)

-- Why the bytes of a host's disks are no host's: the root can't be read, or the journal that it
-- names and the spool are at fault.
abbrev pub IsLoadFault : (bytes : Which → List ℕ) → LoadFault → Type 0
IsLoadFault bytes fault =
    ((fault ≡ load.Disk Root) ⊎ (fault ≡ load.Memory want))
    ⊎ IsBytesFault (active (bytes Root)) (bytes (active (bytes Root))) (bytes Spool) fault

-- the faults of reading an extent
abbrev pub IsScriptFault : StoreFault → Type 0
IsScriptFault (store.Disk Root) = ⊥
IsScriptFault (store.Disk First) = ⊥
IsScriptFault (store.Disk Second) = ⊥
IsScriptFault (store.Disk Spool) = Unit {0}
IsScriptFault (store.Memory memory) = Unit {0}
IsScriptFault store.Stopped = Unit {0}

-- a call of a disk failed
abbrev pub IsDisk : StoreFault → Type 0
IsDisk (store.Disk which) = Unit {0}
IsDisk (store.Memory memory) = ⊥
IsDisk store.Stopped = ⊥
