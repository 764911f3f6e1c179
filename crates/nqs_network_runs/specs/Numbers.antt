-- The numbers with which the program exits.
use Rattle.std.specs.Prelude.{ℕ}
use Rattle.nqs_network_runs.specs.declared.status.Status.{Status}
use Rattle.nqs_network_runs.specs.declared.status.Status.TheVariants.{Done, BadWords, BadSchedule, ReadFault, WriteFault, Memory, TooLong, DiskFull, Unparsed}

-- 6 is want of memory, wherever it came
abbrev pub number_of : Status → ℕ
number_of Done = 0
number_of BadWords = 2
number_of BadSchedule = 3
number_of ReadFault = 4
number_of WriteFault = 5
number_of (Memory want) = 6
number_of TooLong = 7
number_of (DiskFull full) = 8
number_of (Unparsed refused) = 6
