use Rattle.std.proofs.Common.{◌≡◌, ◌+◌, ◌*◌, ◌≤◌, ◌∙◌, sym, ap, arith}
use Rattle.nqs_base_tables.specs.Slots.{filled}
use Rattle.nqs_base_tables.proofs.SlotLemmas.{filled-small, count-step}
use Rattle.nqs_base_tables.proofs.slots.Slots.whole.Goals as goal

pub overflow_add-count : goal.overflow_add-count
overflow_add-count g c =
    let step : filled c.self.inside.map.entries ((c.loop-block.block + 1) * 128)
    ≡ filled c.self.inside.map.entries (c.loop-block.block * 128) + c.index.result.now =
    count-step c.self.inside.blocks.items c.self.inside.map.entries c.loop-block.block c.index.result.now c.self.invariant.1 (omega arith) c.index.ensures in
    let small : filled c.self.inside.map.entries ((c.loop-block.block + 1) * 128) ≤ (c.loop-block.block + 1) * 128 =
    filled-small c.self.inside.map.entries ((c.loop-block.block + 1) * 128) in
    omega arith

pub loop-block-preserved : goal.loop-block-preserved
loop-block-preserved g c =
    let step : filled c.self.inside.map.entries ((c.loop-block.block + 1) * 128)
    ≡ filled c.self.inside.map.entries (c.loop-block.block * 128) + c.index.result.now =
    count-step c.self.inside.blocks.items c.self.inside.map.entries c.loop-block.block c.index.result.now c.self.invariant.1 (omega arith) c.index.ensures in
    omega arith

pub returns-clause-count : goal.returns-clause-count
returns-clause-count g c =
    let e : c.min-blocks.result * 128 ≡ c.loop-block.block * 128 = omega arith in
    ap (λ r. filled r.entries (c.min-blocks.result * 128)) (sym c.self.view_is) ∙ ap (filled c.self.inside.map.entries) e ∙ c.loop-block.invariant
