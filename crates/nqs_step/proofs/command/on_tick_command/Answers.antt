use Rattle.std.proofs.Common.{◌≡◌, ◌∙◌, ◌∷◌, [], IfOk, subst}
use Rattle.nqs_state.specs.State.{content}
use Rattle.nqs_types.specs.declared.event.Reply.TheVariants.{Done}
use Rattle.nqs_rules.specs.Step.{reply_to, ticked}
use Rattle.nqs_plans.specs.More.{with_more}
use Rattle.nqs_plans.proofs.Grown.{plan-also}
use Rattle.nqs_step.specs.Asked.{asked}
use Rattle.nqs_step.proofs.command.on_tick_command.Goals as goal

pub returns : goal.returns
returns c =
    let s = content c.args.state.now in
    subst (λ x. IfOk c.add.result (λ plan. plan ≡ x))
    ((λ j. with_more (c.in_ok-plan.ensures j) (c.reply_to.ensures j ∷ [])) ∙ plan-also (ticked c.args.now s) (reply_to (asked c.args.asker) Done ∷ []))
    c.add.ensures
