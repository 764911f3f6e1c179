use Rattle.std.proofs.Common.{ap, ◌∙◌}
use Rattle.nqs_state.specs.State.{content}
use Rattle.nqs_rules.specs.Applied.{hand_refused}
use Rattle.nqs_changes.proofs.Refused.{noted_then_queued}
use Rattle.nqs_changes.proofs.hands.refused.Goals as goal

pub returns-in-Some : goal.returns-in-Some
returns-in-Some c =
    let s = content c.args.state.now in
    let hand = c.in-Some.hand in
    (λ j. record (content c.requeued.new.state) { hands = c.remove_key.ensures.items j })
    ∙ noted_then_queued s (content c.note_refusal.new.state) (content c.requeued.new.state) c.args.key.now hand c.args.cause c.note_refusal.ensures
    c.requeued.ensures
    ∙ ap (λ o. hand_refused c.args.key.now c.args.cause o s) c.in-Some.ensures
