use Rattle.std.proofs.Common.{rules, ap}
use Rattle.nqs_state.specs.State.{content}
use Rattle.nqs_rules.specs.Applied.{requeued_row}
use Rattle.nqs_changes.proofs.rows.requeued.Goals as goal

pub returns : goal.returns
returns c = ap (λ rs. record (content c.args.state.now) { rows = rs }) (c.change.ensures.changed requeued_row (λ v w found ran. search rules))
