use Rattle.std.proofs.Common.{rules, ap, ◌∙◌}
use Rattle.nqs_state.specs.State.{content}
use Rattle.nqs_rules.specs.Applied.{committed, hand_committed}
use Rattle.nqs_changes.proofs.hands.committed.Goals as goal

pub returns-in-Some : goal.returns-in-Some
returns-in-Some c =
    let s = content c.args.state.now in
    (λ j. record s { rows = c.remove_key.ensures.items j; hands = c.change.ensures.changed committed (λ v w found ran. search rules) j })
    ∙ ap (λ o. hand_committed c.args.key.now o s) c.in-Some.ensures
