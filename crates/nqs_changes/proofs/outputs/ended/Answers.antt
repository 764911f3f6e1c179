use Rattle.std.proofs.Common.{sym, subst}
use Rattle.nqs_state.specs.State.{content}
use Rattle.nqs_state.specs.Least.{runs_now}
use Rattle.nqs_rules.specs.InOrder.{IsInOrder}
use Rattle.nqs_rules.proofs.RowsOrder.{row_dropped}
use Rattle.nqs_rules.proofs.RowKinds.{unoffered, running_unrouted}
use Rattle.nqs_changes.proofs.outputs.ended.Goals as goal

pub add_outputs-requires-clause-order : goal.add_outputs-requires-clause-order
add_outputs-requires-clause-order c =
    let s = content c.args.state.now in
    subst (λ rs. IsInOrder (record s { rows = rs })) (sym c.remove_key.ensures.items)
    (row_dropped s c.args.id c.requires.order (unoffered runs_now c.args.id s c.requires.order running_unrouted c.requires.runs))
