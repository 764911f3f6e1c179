use Rattle.std.proofs.Common.{◌≡◌, ◌+◌, ◌-◌, ◌*◌, ◌≤◌, length}
use Rattle.nqs_base_tables.specs.Slots.{filled}
use Rattle.nqs_base_tables.proofs.slots.Slots.skip.Given as goal

abbrev pub invariant-loop-block : goal.invariant-loop-block
invariant-loop-block g l = record {
  rest : filled l.self-inside.map.entries (l.block * 128) + l.left ≡ l.place;
  within : l.block ≤ length l.self-inside.blocks.items;
}

abbrev pub decreases-loop-block : goal.decreases-loop-block
decreases-loop-block g l = length l.self-inside.blocks.items - l.block
