use Rattle.std.proofs.Common.{◌≡◌, ◌≤◌, ◌∙◌, sym, ap, arith}
use Rattle.nqs_base_tables.specs.Slots.{filled}
use Rattle.nqs_base_tables.proofs.SlotLemmas.{filled-small}
use Rattle.nqs_base_tables.proofs.slots.Slots.count.Goals as goal

pub loop-slot-init : goal.loop-slot-init
loop-slot-init g c = sym c.whole-start.ensures.count

pub overflow_add-count : goal.overflow_add-count
overflow_add-count g c =
    let small : filled c.args.self.now.entries c.loop-slot.slot ≤ c.loop-slot.slot = filled-small c.args.self.now.entries c.loop-slot.slot in
    omega arith

pub loop-slot-preserved : goal.loop-slot-preserved
loop-slot-preserved g c = omega arith

pub returns : goal.returns
returns g c =
    let e : c.loop-slot.slot ≡ c.args.end = omega arith in
    c.loop-slot.invariant ∙ ap (filled c.args.self.now.entries) e
