use Rattle.std.proofs.Common.{◌∙◌, arith, ap, length, get_or}
use Rattle.nqs_pieces.proofs.SlotLaws.{message_fits}
use Rattle.nqs_pieces.proofs.slots.Slots.append_to.Goals as goal

pub unwrap-requires : goal.unwrap-requires
unwrap-requires c =
    let same = c.deref-slot-items.ensures.value ∙ c.self.view_is in
    let i = c.loop-slot.slot-index in
    let slot = c.slot-item.result in
    let fits = message_fits c.args.self.now i slot (omega (arith, ap length same)) (c.slot-item.is ∙ ap (λ x. get_or x i slot) same) in
    c.extend_from_slice.ensures.succeeds (omega (arith, fits, ap length c.bytes_in.ensures, c.requires))
