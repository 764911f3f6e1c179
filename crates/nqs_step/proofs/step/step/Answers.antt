use Rattle.std.proofs.Common.{◌≡◌, ◌∙◌, IfOk, sym, ap, subst}
use Rattle.nqs_state.specs.State.{content}
use Rattle.nqs_rules.specs.Find.{find_row}
use Rattle.nqs_rules.specs.Step.{acknowledged, ended_by, step}
use Rattle.nqs_rules.specs.Stepped.{plan_of}
use Rattle.nqs_plans.specs.More.{with_more}
use Rattle.nqs_plans.proofs.Grown.{plan-also}
use Rattle.nqs_step.proofs.step.step.Goals as goal

pub returns-in_ok-plan-in-Ended : goal.returns-in_ok-plan-in-Ended
returns-in_ok-plan-in-Ended c =
    let s = content c.args.state.now in
    let e = c.in-Ended in
    let ack = acknowledged e.port e.id e.start in
    let ended = ended_by (find_row e.id s) e.start e.status e.out e.err s in
    subst (λ x. IfOk c.acknowledge.result (λ plan. plan ≡ x))
    (ap (λ p. with_more p ack) c.in_ok-plan-in-Ended.ensures ∙ plan-also ended ack ∙ sym (ap (λ v. plan_of (step v s)) e.is))
    c.acknowledge.ensures
