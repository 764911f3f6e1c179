use Rattle.std.proofs.Common.{rules, ap}
use Rattle.nqs_state.specs.State.{content}
use Rattle.nqs_types.specs.declared.edit.LimitsEdit.TheVariants.{SetComplexLimit}
use Rattle.nqs_rules.specs.Limits.{complex_edited}
use Rattle.nqs_limits.proofs.apply.set_complex_limit.Goals as goal

pub returns : goal.returns
returns c = ap (λ cs. record (content c.args.state.now) { complexes = cs })
    (c.change.ensures.changed (complex_edited (SetComplexLimit c.args.limit c.args.complex.now)) (λ v w found ran. search rules))
