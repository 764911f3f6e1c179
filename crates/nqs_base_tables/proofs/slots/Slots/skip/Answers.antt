use Rattle.std.proofs.Common.{◌≡◌, ◌+◌, ◌*◌, ◌≤◌, ◌∙◌, length, sym, ap, arith}
use Rattle.nqs_base_tables.specs.Slots.{filled}
use Rattle.nqs_base_tables.proofs.SlotLemmas.{count-step}
use Rattle.nqs_base_tables.proofs.slots.Slots.skip.Goals as goal

pub returns-then-left-count : goal.returns-then-left-count
returns-then-left-count g c =
    ap (λ r. filled r.entries (c.loop-block.block * 128) + c.loop-block.left) (sym c.self.view_is) ∙ c.loop-block.invariant.rest

pub loop-block-preserved : goal.loop-block-preserved
loop-block-preserved g c =
    let step : filled c.self.inside.map.entries ((c.loop-block.block + 1) * 128)
    ≡ filled c.self.inside.map.entries (c.loop-block.block * 128) + c.index-count.result.now =
    count-step c.self.inside.blocks.items c.self.inside.map.entries c.loop-block.block c.index-count.result.now c.self.invariant.1 (omega arith)
    c.index-count.ensures in
    record { rest = omega arith; within = omega arith }

pub overflow_mul-result-2 : goal.overflow_mul-result-2
overflow_mul-result-2 g c =
    let within : length c.self.inside.blocks.items * 128 ≤ length c.self.inside.map.entries = c.self.invariant.1.within in
    omega arith

pub returns : goal.returns
returns g c =
    ap (λ r. filled r.entries (c.loop-block.block * 128) + c.loop-block.left) (sym c.self.view_is) ∙ c.loop-block.invariant.rest
