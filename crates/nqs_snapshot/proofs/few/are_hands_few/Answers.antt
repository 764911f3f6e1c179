use Rattle.std.proofs.Common.{sym, ap, ◌∙◌, nat_le, arith}
use Rattle.nqs_state.specs.State.{content}
use Rattle.nqs_snapshot.proofs.FewHands.{above, all_few, not_few}
use Rattle.nqs_snapshot.proofs.few.are_hands_few.Goals as goal

pub returns-then-hands_to-gt8 : goal.returns-then-hands_to-gt8
returns-then-hands_to-gt8 c =
    sym (not_few (content c.args.state.now) c.loop-peer.peer
    (ap (λ n. nat_le n 8) (sym c.hands_to.ensures) ∙ above c.hands_to.result (omega (arith, c.if-hands_to-gt8.true))))

pub returns : goal.returns
returns c =
    sym (all_few (content c.args.state.now) (λ p less. c.loop-peer.invariant.0 p (omega (arith, less, c.loop-peer-test.false))) c.requires)
