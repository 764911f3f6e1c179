use Rattle.std.proofs.Common.{rules, ap}
use Rattle.nqs_state.specs.State.{content}
use Rattle.nqs_types.specs.declared.edit.LimitsEdit.TheVariants.{RemoveQueue}
use Rattle.nqs_rules.specs.Limits.{complex_edited}
use Rattle.nqs_limits.proofs.apply.remove_queue.Goals as goal

pub returns : goal.returns
returns c = ap (λ cs. record (content c.args.state.now) { complexes = cs })
    (c.change.ensures.changed (complex_edited (RemoveQueue c.args.queue.now c.args.complex.now)) (λ v w found ran. search rules))
