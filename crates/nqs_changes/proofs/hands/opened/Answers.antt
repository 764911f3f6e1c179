use Rattle.std.proofs.Common.{rules, ap, ◌∙◌, ◌++◌, ◌∷◌, [], ◌+◌}
use Rattle.std.specs.List.{list_any}
use Rattle.nqs_state.specs.State.{content}
use Rattle.nqs_state.specs.Keys.{is_hand}
use Rattle.nqs_rules.specs.Find.{peer_number}
use Rattle.nqs_rules.specs.Edits.{change_peer}
use Rattle.nqs_rules.specs.Applied.{routing_row}
use Rattle.nqs_changes.proofs.Fresh.{hand_is_new}
use Rattle.nqs_changes.proofs.hands.opened.Goals as goal

pub push-requires-clause-absent : goal.push-requires-clause-absent
push-requires-clause-absent c =
    let hand = c.args.hand in
    ap (λ hs. list_any (is_hand (peer_number hand.peer hand.number)) hs.items) c.change_peer.ensures.hands
    ∙ hand_is_new (content c.args.state.now) c.requires.order hand.peer hand.number c.requires.next

pub returns : goal.returns
returns c =
    let s = content c.args.state.now in
    let hand = c.args.hand in
    let rows = c.change.ensures.changed routing_row (λ v w found ran. search rules) in
    let peers = c.change_peer.ensures.content (λ p. record p { next = hand.number + 1 }) (λ p q found ran. search rules) in
    (λ j. record (peers j) { hands = c.push.ensures.items j })
    ∙ (λ j. record (change_peer hand.peer (λ p. record p { next = hand.number + 1 }) (record s { rows = rows j }))
    { hands = (c.change_peer.ensures.hands j).items ++ record hand { phase = c.requires.phase j } ∷ [] })
