use Rattle.std.proofs.Common.{◌≡◌, length, take, min}
use Rattle.nqs_pieces.specs.Gathering.{message_of}
use Rattle.nqs_pieces.proofs.slots.Slots.total.Given as goal

abbrev pub invariant-loop-slot : goal.invariant-loop-slot
invariant-loop-slot l = l.total ≡ min (length (message_of (take l.slot-index l.self))) 18446744073709551615
