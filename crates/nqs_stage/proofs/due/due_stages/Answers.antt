use Rattle.std.proofs.Common.{◌≡◌, ◌∙◌, [], IfOk, ap, subst}
use Rattle.nqs_state.specs.State.{content}
use Rattle.nqs_rules.specs.Stage.{due_outputs}
use Rattle.nqs_rules.specs.Stepped.{says}
use Rattle.nqs_plans.specs.More.{with_more}
use Rattle.nqs_plans.proofs.Grown.{plan-also}
use Rattle.nqs_stage.proofs.due.due_stages.Goals as goal

pub returns : goal.returns
returns c =
    let due = due_outputs (content c.args.state.now) in
    subst (λ x. IfOk c.add_due_stages.result (λ plan. plan ≡ x)) (ap (λ p. with_more p due) c.quiet.ensures ∙ plan-also (says []) due) c.add_due_stages.ensures
