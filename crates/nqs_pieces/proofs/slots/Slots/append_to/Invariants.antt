use Rattle.std.proofs.Common.{◌≡◌, ◌+◌, ◌≤◌, ◌++◌, length, take, vec_len, vec_capacity}
use Rattle.nqs_pieces.specs.Gathering.{message_of}
use Rattle.nqs_pieces.proofs.slots.Slots.append_to.Given as goal

abbrev pub invariant-loop-slot : goal.invariant-loop-slot
invariant-loop-slot l =
    (l.whole.items ≡ l.initial.whole.items ++ message_of (take l.slot-index l.self))
    × (vec_len l.whole ≡ vec_len l.initial.whole + length (message_of (take l.slot-index l.self)))
    × (vec_capacity l.initial.whole ≤ vec_capacity l.whole)
