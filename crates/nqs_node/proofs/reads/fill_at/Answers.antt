use Rattle.std.proofs.Common.{slice_set, ap, ◌∙◌, arith}
use Rattle.nqs_rules.specs.Stepped.{with_bytes}
use Rattle.nqs_node.proofs.Places.{set_at, none_at}
use Rattle.nqs_node.proofs.reads.fill_at.Goals as goal

pub returns-then-place-len-clause-filled : goal.returns-then-place-len-clause-filled
returns-then-place-len-clause-filled c =
    let vs = c.args.outputs.now.items in
    let was = c.fill.ensures ∙ ap (with_bytes c.args.read) c.index_mut-output.ensures.value in
    ap (slice_set vs c.args.place) was ∙ set_at vs c.args.place (with_bytes c.args.read) c.index_mut-output.result.now (omega arith)

pub returns-else-place-len-clause-filled : goal.returns-else-place-len-clause-filled
returns-else-place-len-clause-filled c = none_at c.args.outputs.now.items c.args.place (with_bytes c.args.read) (omega arith)
