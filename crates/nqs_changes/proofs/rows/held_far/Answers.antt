use Rattle.std.proofs.Common.{rules, ap}
use Rattle.nqs_state.specs.State.{content}
use Rattle.nqs_rules.specs.Applied.{held_far}
use Rattle.nqs_changes.proofs.rows.held_far.Goals as goal

pub returns : goal.returns
returns c = ap (λ rs. record (content c.args.state.now) { rows = rs }) (c.change.ensures.changed held_far (λ v w found ran. search rules))
