use Rattle.std.proofs.Common.{◌≡◌, None, replicate}
use Rattle.nqs_pieces.proofs.slots.Slots.new.Given as goal

abbrev pub invariant-loop : goal.invariant-loop
invariant-loop l = l.slots.items ≡ replicate l.counter None
