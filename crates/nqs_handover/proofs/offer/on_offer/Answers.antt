use Rattle.std.proofs.Common.{◌≡◌, ◌∙◌, IfOk, sym, subst}
use Rattle.nqs_state.specs.State.{content}
use Rattle.nqs_rules.specs.Stepped.{plan_of}
use Rattle.nqs_handover.proofs.Refusals.{offer_taken, offer_refused}
use Rattle.nqs_handover.proofs.offer.on_offer.Goals as goal

pub returns-in-Ok : goal.returns-in-Ok
returns-in-Ok c =
    let is = offer_taken (content c.args.state.now) c.args.peer c.args.low c.args.queue.now c.args.carried.now c.args.number c.args.script.now
    (sym c.closes.ensures ∙ c.if-closes.false) (sym c.has_promise.ensures ∙ c.if-has_promise.false) c.in-Ok.ensures in
    subst (λ x. IfOk c.promise.result (λ plan. plan ≡ plan_of x)) (sym is) c.promise.ensures

pub returns-in-Err : goal.returns-in-Err
returns-in-Err c =
    let is = offer_refused (content c.args.state.now) c.args.peer c.args.low c.args.queue.now c.args.carried.now c.args.number c.args.script.now c.in-Err.cause
    (sym c.closes.ensures ∙ c.if-closes.false) (sym c.has_promise.ensures ∙ c.if-has_promise.false) c.in-Err.ensures in
    subst (λ x. IfOk c.says-in-Err.result (λ plan. plan ≡ plan_of x)) (sym is) (rw c.message-in-Err.ensures at c.says-in-Err.ensures)
