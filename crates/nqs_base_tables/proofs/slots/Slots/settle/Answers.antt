use Rattle.std.proofs.Common.{◌≤◌, length, arith}
use Rattle.nqs_base_tables.specs.Slots.{live}
use Rattle.nqs_base_tables.proofs.SlotLemmas.{live-small}
use Rattle.nqs_base_tables.proofs.slots.Slots.settle.Goals as goal

pub overflow_sub-end : goal.overflow_sub-end
overflow_sub-end g c =
    let b : length (live c.args.self.now.entries) ≤ length c.args.self.now.entries = live-small c.args.self.now.entries in
    omega arith
