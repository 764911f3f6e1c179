use Rattle.std.proofs.Common.{rules, ap}
use Rattle.nqs_state.specs.State.{content}
use Rattle.nqs_rules.specs.Limits.{limits_edited}
use Rattle.nqs_limits.proofs.apply.edit_queue.Goals as goal

pub returns : goal.returns
returns c = ap (λ qs. record (content c.args.state.now) { queues = qs }) (c.change.ensures.changed (limits_edited c.args.edit.now)
    (λ v w found ran. search rules))
