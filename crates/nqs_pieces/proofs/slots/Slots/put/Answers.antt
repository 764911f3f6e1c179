use Rattle.std.proofs.Common.{sym, ◌∙◌, arith, ap, length, not}
use Rattle.nqs_pieces.specs.Gathering.{with_bytes}
use Rattle.nqs_pieces.proofs.SlotLaws.{with_bytes-none, with_bytes-some}
use Rattle.nqs_pieces.proofs.slots.Slots.put.Goals as goal
use Rattle.nqs_pieces.proofs.slots.Slots.put.Goals.{in-Some-1, in-None-1}

pub returns-then-is_none : goal.returns-then-is_none
returns-then-is_none c =
    let slots = c.self.inside.slots.items in
    let none = with_bytes-none c.args.index c.args.bytes slots c.index.result.now (omega (arith, ap length c.self.view_is)) c.index.ensures
    (c.is_none.ensures ∙ ap not c.if-is_none.true) in
    let put = sym none ∙ ap (with_bytes c.args.index c.args.bytes) c.self.view_is in
    elim c.match-index_mut.branch [ in-Some-1 w ↦ w.self-is ∙ put | in-None-1 w ↦ w.self-is ∙ put ]

pub returns-else-is_none : goal.returns-else-is_none
returns-else-is_none c =
    let slots = c.self.inside.slots.items in
    let some = with_bytes-some c.args.index c.args.bytes slots c.index.result.now (omega (arith, ap length c.self.view_is)) c.index.ensures
    (c.is_none.ensures ∙ ap not c.if-is_none.false) in
    sym c.self.view_is ∙ sym some ∙ ap (with_bytes c.args.index c.args.bytes) c.self.view_is
