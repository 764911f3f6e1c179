use Rattle.std.proofs.Common.{◌≡◌, ◌*◌}
use Rattle.nqs_base_tables.specs.Slots.{filled}
use Rattle.nqs_base_tables.proofs.slots.Slots.whole.Given as goal

abbrev pub invariant-loop-block : goal.invariant-loop-block
invariant-loop-block g l = filled l.self-inside.map.entries (l.block * 128) ≡ l.count
