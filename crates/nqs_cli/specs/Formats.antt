-- What `nqs format` does with the disks of a host.
use Rattle.std.specs.Prelude.{◌≡◌, ℕ, ◌<◌, Bool, IsTrue, List, length}
use Rattle.nqs_types.specs.declared.ids.HostId.{HostId}
use Rattle.nqs_types.specs.declared.world.Which.{Which}
use Rattle.nqs_types.specs.declared.world.Which.TheVariants.{Root, First, Second, Spool}
use Rattle.nqs_outside.specs.Causes.{Rose}
use Rattle.nqs_outside.specs.History.{History, content}
use Rattle.nqs_store.specs.Formatted.{IsFormatted}
use Rattle.nqs_clients.specs.declared.status.NqsStatus.{NqsStatus}
use Rattle.nqs_clients.specs.declared.status.NqsStatus.TheVariants.{Done, Exists, DiskFault, Memory}
use Rattle.nqs_cli.specs.Parts.{DisksTold}

-- no disk has a byte
abbrev pub AreEmpty : (Which → History) → Type 0
AreEmpty h = (which : Which) → length (content (h which)) ≡ 0

-- a disk has one
abbrev pub AreUsed : (Which → History) → Type 0
AreUsed h = (which : Which) × (0 < length (content (h which)))

-- no disk was written to
abbrev pub AreSame : (Which → History) → (Which → History) → Type 0
AreSame h k = (which : Which) → k which ≡ h which

-- but for the journal's
abbrev pub AreSameButFirst : (Which → History) → (Which → History) → Type 0
AreSameButFirst h k = (k Root ≡ h Root) × (k Second ≡ h Second) × (k Spool ≡ h Spool)

-- by its status, where the disks tell
abbrev pub Formats : Bool → HostId → List (List ℕ) → DisksTold → DisksTold → NqsStatus → Type 0
Formats tells me names was now Done =
    IsTrue tells → AreEmpty was.histories × IsFormatted (now.histories First) me names × AreSameButFirst was.histories now.histories
Formats tells me names was now Exists = IsTrue tells → AreUsed was.histories × AreSame was.histories now.histories
Formats tells me names was now DiskFault =
    ((which : Which) × Rose (was.faults which) (now.faults which)) × (IsTrue tells → AreSameButFirst was.histories now.histories)
Formats tells me names was now (Memory memory) = IsTrue tells → AreSame was.histories now.histories
Formats tells me names was now _ = ⊥
