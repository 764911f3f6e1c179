use Rattle.std.proofs.Common.{rules, ap}
use Rattle.nqs_state.specs.State.{content}
use Rattle.nqs_types.specs.declared.edit.AccessEdit.TheVariants.{RemoveUser}
use Rattle.nqs_rules.specs.Access.{access_edited}
use Rattle.nqs_access.proofs.apply.remove_user.Goals as goal

pub returns : goal.returns
returns c = ap (λ qs. record (content c.args.state.now) { queues = qs }) (c.change.ensures.changed (access_edited (RemoveUser c.args.user.now c.args.queue.now))
    (λ v w found ran. search rules))
