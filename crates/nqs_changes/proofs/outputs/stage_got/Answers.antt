use Rattle.std.proofs.Common.{rules, sym, subst, refl, arith}
use Rattle.nqs_state.specs.State.{content}
use Rattle.nqs_rules.specs.InOrder.{IsInOrder}
use Rattle.nqs_rules.proofs.PeersOrder.{peer_counted}
use Rattle.nqs_changes.proofs.outputs.stage_got.Goals as goal

pub add_file-requires-clause-order : goal.add_file-requires-clause-order
add_file-requires-clause-order c =
    let s = content c.args.state.now in
    subst IsInOrder (sym (c.change_peer.ensures.content (λ p. record p { stage_got = c.args.number }) (λ p q found ran. search rules)))
    (peer_counted s c.args.peer (λ p. record p { stage_got = c.args.number }) c.requires.order (λ p e. record { next = omega arith; stage_next = omega arith })
    (λ p. (refl, refl)))
