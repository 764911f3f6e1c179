use Rattle.nqs_state.proofs.LeastLemmas.{by_index, none_by_index}
use Rattle.nqs_state.proofs.rows.least_by_index.Goals as goal

pub returns-in-Some-running_at : goal.returns-in-Some-running_at
returns-in-Some-running_at c =
    let found = c.in-Some-running_at.ensures in
    by_index c.args.index.now c.args.table.now.items c.requires c.in-Some.id c.in-Some-running_at.row.now c.in-Some.ensures.some found.0 found.1

pub returns-in-None : goal.returns-in-None
returns-in-None c = none_by_index c.args.index.now c.args.table.now.items c.requires c.in-None.ensures.none
