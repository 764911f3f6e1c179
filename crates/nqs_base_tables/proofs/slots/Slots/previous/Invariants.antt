use Rattle.std.proofs.Common.{◌≡◌, ◌≤◌, length}
use Rattle.nqs_base_tables.specs.Slots.{filled}
use Rattle.nqs_base_tables.proofs.slots.Slots.previous.Given as goal

abbrev pub invariant-loop-slot : goal.invariant-loop-slot
invariant-loop-slot g l = record {
  same : filled l.self.entries l.slot ≡ filled l.self.entries l.end;
  within : l.slot ≤ length l.self.entries;
}

abbrev pub decreases-loop-slot : goal.decreases-loop-slot
decreases-loop-slot g l = l.slot
