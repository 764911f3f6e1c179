-- A fault of a reading is one of three.
use Rattle.std.proofs.Common.{ℕ, List}
use Rattle.std.specs.Prelude.{Ok, Err, IfErr}
use Rattle.std.specs.declared.result.Result.{Result}
use Rattle.nqs_journal.specs.Faults.{IsReadFault, IsLoadFault, IsDiskFault, IsEitherLoadFault, IsReadingFault}
use Rattle.nqs_journal.specs.declared.fault.JournalFault.{JournalFault}
use Rattle.nqs_journal.specs.declared.fault.JournalFault.TheVariants.{Disk, NotJournal, TooLong, Stopped, Memory}

pub of_disk : (fault : JournalFault) → IsDiskFault fault → IsReadingFault fault
of_disk Disk is = tt
of_disk (Memory memory) is = tt
of_disk (NotJournal place) is = absurd is
of_disk TooLong is = is
of_disk Stopped is = is

pub to_load : (bytes : List ℕ) (fault : JournalFault) → IsDiskFault fault → IsLoadFault bytes fault
to_load bytes Disk is = tt
to_load bytes (Memory memory) is = tt
to_load bytes (NotJournal place) is = absurd is
to_load bytes TooLong is = is
to_load bytes Stopped is = is

pub to_either : (bytes : List ℕ) (fault : JournalFault) → IsDiskFault fault → IsEitherLoadFault bytes fault
to_either bytes Disk is = tt
to_either bytes (Memory memory) is = tt
to_either bytes (NotJournal place) is = absurd is
to_either bytes TooLong is = is
to_either bytes Stopped is = is

of_bytes : (bytes : List ℕ) (fault : JournalFault) → IsReadFault bytes fault → IsReadingFault fault
of_bytes bytes (NotJournal place) is = tt
of_bytes bytes (Memory memory) is = tt
of_bytes bytes Disk is = tt
of_bytes bytes TooLong is = is
of_bytes bytes Stopped is = is

pub of_text : {T : Type 0} (r : Result T JournalFault) (bytes : List ℕ) → IfErr r (IsReadFault bytes) → IfErr r IsReadingFault
of_text (Ok found) bytes is = tt
of_text (Err fault) bytes is = of_bytes bytes fault is
