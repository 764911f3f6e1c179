use Rattle.std.proofs.Common.{rules, subst, IfOk, ◌≡◌, ◌∷◌, []}
use Rattle.nqs_state.specs.State.{content}
use Rattle.nqs_rules.specs.Handover.{repeat_hand, send_inquire}
use Rattle.nqs_plans.specs.More.{with_more}
use Rattle.nqs_handover.proofs.Ticks.{tick_is}
use Rattle.nqs_handover.proofs.tick.on_tick.Goals as goal

pub returns : goal.returns
returns c =
    let s = content c.args.state.now in
    let hands = c.in_ok-plan-2.ensures (λ q h. with_more q (repeat_hand c.args.now s h)) (λ a w r k. search rules) in
    let promises = c.fold_each-2.ensures (λ q p. with_more q (send_inquire s p ∷ [])) (λ a w r k. search rules) in
    subst (λ x. IfOk c.fold_each-2.result (λ plan. plan ≡ x)) (tick_is c.args.now s c.in_ok-plan.plan c.in_ok-plan-2.plan c.in_ok-plan.ensures hands) promises
