use Rattle.std.proofs.Common.{◌≡◌, ◌-◌, length}
use Rattle.nqs_base_tables.specs.Slots.{filled}
use Rattle.nqs_base_tables.proofs.slots.Slots.next.Given as goal

abbrev pub invariant-loop-slot : goal.invariant-loop-slot
invariant-loop-slot g l = filled l.self.entries l.slot ≡ filled l.self.entries l.from

abbrev pub decreases-loop-slot : goal.decreases-loop-slot
decreases-loop-slot g l = length l.self.entries - l.slot
