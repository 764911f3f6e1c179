use Rattle.std.proofs.Common.{◌≤◌, ◌-◌, length}
use Rattle.nqs_base_tables.proofs.held.take_rooms.Given as goal

abbrev pub invariant-loop-alloc : goal.invariant-loop-alloc
invariant-loop-alloc g l = length l.fn.rooms.items ≤ length l.rooms.items

abbrev pub decreases-loop-alloc : goal.decreases-loop-alloc
decreases-loop-alloc g l = l.wanted - length l.rooms.items
