use Rattle.std.proofs.Common.{◌≡◌, ◌+◌, ◌≤◌, ◌∙◌, ap, arith}
use Rattle.nqs_base_tables.specs.Slots.{filled}
use Rattle.nqs_base_tables.proofs.SlotLemmas.{filled-small}
use Rattle.nqs_base_tables.proofs.slots.Slots.block.Goals as goal

pub overflow_add-count : goal.overflow_add-count
overflow_add-count g c =
    let small : filled c.args.self.now.entries c.loop-slot.slot ≤ c.loop-slot.slot = filled-small c.args.self.now.entries c.loop-slot.slot in
    omega arith

pub loop-slot-preserved : goal.loop-slot-preserved
loop-slot-preserved g c = omega arith

pub returns : goal.returns
returns g c =
    let e : c.args.start + 128 ≡ c.loop-slot.slot = omega arith in
    ap (filled c.args.self.now.entries) e ∙ c.loop-slot.invariant
