use Rattle.std.proofs.Common.{◌≡◌, ◌+◌}
use Rattle.nqs_base_tables.specs.Slots.{filled}
use Rattle.nqs_base_tables.proofs.slots.Slots.block.Given as goal

abbrev pub invariant-loop-slot : goal.invariant-loop-slot
invariant-loop-slot g l = filled l.self.entries l.slot ≡ filled l.self.entries l.start + l.count
