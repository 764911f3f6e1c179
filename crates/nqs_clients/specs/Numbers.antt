-- The numbers with which the program exits.
use Rattle.std.specs.Prelude.{ℕ}
use Rattle.nqs_clients.specs.declared.status.NqsStatus.{NqsStatus}
use Rattle.nqs_clients.specs.declared.status.NqsStatus.TheVariants.{Done, Refused, BadWords, NotNqs, ReadFault, WriteFault, Memory, NoAnswer, WireFault}
use Rattle.nqs_clients.specs.declared.status.NqsStatus.TheVariants.{DiskFault, TurnsUsed, MachineFault, Exists, Unread}

-- the number with which a program exits at a status
abbrev pub number_of : NqsStatus → ℕ
number_of Done = 0
number_of Refused = 1
number_of BadWords = 2
number_of NotNqs = 3
number_of ReadFault = 4
number_of WriteFault = 5
number_of (Memory memory) = 6
number_of (Unread unread) = 6
number_of NoAnswer = 7
number_of WireFault = 8
number_of DiskFault = 9
number_of TurnsUsed = 10
number_of MachineFault = 11
number_of Exists = 12
