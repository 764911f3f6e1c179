use Rattle.std.proofs.Common.{◌≡◌, ◌∙◌, IfOk, ap, subst}
use Rattle.nqs_state.specs.State.{content}
use Rattle.nqs_rules.specs.Handover.{on_tick}
use Rattle.nqs_rules.specs.Stage.{due_outputs}
use Rattle.nqs_plans.specs.More.{with_more}
use Rattle.nqs_plans.proofs.Grown.{plan-also}
use Rattle.nqs_step.proofs.Orderly.{hops_left}
use Rattle.nqs_step.proofs.command.ticked.Goals as goal

pub on_tick-requires : goal.on_tick-requires
on_tick-requires c = hops_left (content c.args.state.now) c.requires

pub returns : goal.returns
returns c =
    let s = content c.args.state.now in
    subst (λ x. IfOk c.add_due_stages.result (λ plan. plan ≡ x)) (ap (λ p. with_more p (due_outputs s)) c.in_ok-plan.ensures
    ∙ plan-also (on_tick c.args.now s) (due_outputs s)) c.add_due_stages.ensures
