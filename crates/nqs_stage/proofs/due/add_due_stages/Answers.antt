use Rattle.std.proofs.Common.{◌≡◌, ◌∷◌, [], rules, IfOk, subst}
use Rattle.nqs_state.specs.State.{content}
use Rattle.nqs_rules.specs.Stage.{file_again}
use Rattle.nqs_plans.specs.More.{with_more}
use Rattle.nqs_stage.proofs.Ticked.{due_is}
use Rattle.nqs_stage.proofs.due.add_due_stages.Goals as goal

pub returns : goal.returns
returns c =
    let s = content c.args.state.now in
    let files = c.fold_each.ensures (λ p f. with_more p (file_again f ∷ [])) (λ a w r k. search rules) in
    subst (λ x. IfOk c.fold_each.result (λ more. more ≡ x)) (due_is s c.args.plan c.in_ok-plan.plan c.in_ok-plan.ensures) files
