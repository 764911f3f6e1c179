use Rattle.std.proofs.Common.{◌≡◌, ◌∙◌, ◌&&◌, not, rules, IfOk, sym, ap, subst}
use Rattle.nqs_state.specs.State.{content}
use Rattle.nqs_state.specs.Keys.{is_stage}
use Rattle.nqs_rules.specs.Stage.{is_stage_to, is_earlier_stage, send_stage}
use Rattle.nqs_plans.specs.More.{with_more}
use Rattle.nqs_plans.proofs.Grown.{more-none}
use Rattle.nqs_stage.proofs.Next.{next_due}
use Rattle.nqs_stage.proofs.due.add_next.Goals as goal

pub returns-in-Some : goal.returns-in-Some
returns-in-Some c =
    let s = content c.args.state.now in
    let k = c.args.gone.now in
    let best = c.in-Some.ensures (λ t. is_stage_to k.peer t && not (is_stage k t)) is_earlier_stage (λ v r ran. search rules) (λ u v r ran. search rules) in
    subst (λ x. IfOk c.add_stage.result (λ more. more ≡ with_more c.args.plan x)) (ap (send_stage s) best ∙ next_due s k c.requires) c.add_stage.ensures

pub returns-in-None : goal.returns-in-None
returns-in-None c =
    let s = content c.args.state.now in
    let k = c.args.gone.now in
    let best = c.in-None.ensures (λ t. is_stage_to k.peer t && not (is_stage k t)) is_earlier_stage (λ v r ran. search rules) (λ u v r ran. search rules) in
    sym (more-none c.args.plan) ∙ ap (with_more c.args.plan) (ap (send_stage s) best ∙ next_due s k c.requires)
