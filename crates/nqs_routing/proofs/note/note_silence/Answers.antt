use Rattle.std.proofs.Common.{rules, ap, subst, sym, length, ◌≤◌, ◌≡◌, ◌∙◌, slice_set}
use Rattle.nqs_state.specs.State.{content}
use Rattle.nqs_types.specs.declared.request.Peer.{Peer}
use Rattle.nqs_routing.proofs.Peers.{change_at-set, change_at-beyond}
use Rattle.nqs_routing.proofs.note.note_silence.Goals as goal

pub returns-then-peer-len : goal.returns-then-peer-len
returns-then-peer-len c =
    let (p, q, at, ran, set) = c.change.ensures in
    let f : Peer → Peer = λ p. record p { wait = c.args.until } in
    let made : q ≡ f p = search rules in
    ap (λ ps. record (content c.args.state.now) { peers = ps }) (set ∙ ap (slice_set c.args.state.now.peers c.args.peer.0) made
    ∙ change_at-set f c.args.state.now.peers c.args.peer.0 p at)

pub returns-else-peer-len : goal.returns-else-peer-len
returns-else-peer-len c =
    let f : Peer → Peer = λ p. record p { wait = c.args.until } in
    let beyond : length c.args.state.now.peers ≤ c.args.peer.0 = subst (λ n. n ≤ c.args.peer.0) c.len.ensures c.if-peer-len.false in
    ap (λ ps. record (content c.args.state.now) { peers = ps }) (sym (change_at-beyond f c.args.state.now.peers c.args.peer.0 beyond))
