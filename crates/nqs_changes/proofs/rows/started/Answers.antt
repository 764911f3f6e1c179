use Rattle.std.proofs.Common.{rules, ap}
use Rattle.nqs_state.specs.State.{content}
use Rattle.nqs_rules.specs.Applied.{started_row}
use Rattle.nqs_changes.proofs.Losses.{starts_below}
use Rattle.nqs_changes.proofs.rows.started.Goals as goal

pub returns : goal.returns
returns c =
    let s = content c.args.state.now in
    ap (λ rs. record s { rows = rs }) (c.change.ensures.changed (started_row c.args.device) (λ v w found ran.
    let few = starts_below s c.requires.order c.args.id v c.requires.ready found in search rules))
