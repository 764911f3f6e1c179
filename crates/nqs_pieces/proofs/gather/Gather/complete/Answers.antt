use Rattle.std.proofs.Common.{◌≡◌, refl, ◌∙◌, ap, arith, ◌++◌, length, get_or, filter, not, Ok}
use Rattle.std.proofs.lemmas.Result.{err_from_is_err_and}
use Rattle.nqs_pieces.specs.declared.piece.MessageKey.{MessageKey}
use Rattle.nqs_pieces.specs.declared.gather.Gathered.{Gathered}
use Rattle.nqs_pieces.specs.declared.gather.Fed.TheVariants.{Whole}
use Rattle.nqs_pieces.specs.Gathering.{forgotten, message_of, same_key, with_bytes}
use Rattle.nqs_pieces.specs.Standing.{joined}
use Rattle.nqs_pieces.proofs.SlotLaws.{message_with}
use Rattle.nqs_pieces.proofs.Feeding.{answers_same, completes, element, forgotten_by, forgotten_there, put_there, refused}
use Rattle.nqs_pieces.proofs.gather.Gather.complete.Goals as goal

pub returns-in_err-reserve : goal.returns-in_err-reserve
returns-in_err-reserve c =
    let p = err_from_is_err_and c.from_residual.result c.from_residual.ensures.1 in
    refused c.args.piece c.args.self.now c.args.self.now c.args.whole.now.items c.reserve.new.self.items c.from_residual.result p.0 p.1
    refl c.in_err-reserve.ensures.items

pub append_to-requires : goal.append_to-requires
append_to-requires c =
    let ms = c.args.self.now in
    let place = c.args.place in
    let was = c.index.result.now in
    let bytes = c.args.piece.bytes in
    let m = get_or ms place was in
    let it_was : was ≡ m = c.index.ensures ∙ ap (λ x. get_or x place was) c.self.view_is in
    let now = put_there ms place (joined c.from.result bytes m) c.self-2.inside.messages.items c.index-2.result.now c.requires.at.inside
    (c.self-2.view_is ∙ c.put_in.ensures was) c.index-2.ensures in
    let long = message_with c.from.result bytes m.slots in
    let had = ap (λ (x : Gathered). length (message_of x.slots)) it_was in
    let has = ap (λ (x : Gathered). length (message_of x.slots)) now in
    omega (arith, long, had, has, c.total-total.ensures, c.len.ensures, c.saturating_add.ensures, c.in_ok-reserve.ensures.ok, c.reserve.new.self.small)

pub returns : goal.returns
returns c =
    let q = c.args.piece in
    let ms = c.args.self.now in
    let place = c.args.place in
    let was = c.index.result.now in
    let m = get_or ms place was in
    let buffer = c.args.whole.now.items in
    let now = put_there ms place (joined c.from.result q.bytes m) c.self-2.inside.messages.items c.index-2.result.now c.requires.at.inside
    (c.self-2.view_is ∙ c.put_in.ensures was) c.index-2.ensures in
    let slots = ap (λ (x : Gathered). x.slots) now ∙ ap (λ i. with_bytes i q.bytes m.slots) c.from.ensures in
    let after = c.forget.ensures
    ∙ ap (λ (k : MessageKey). filter (λ (x : Gathered). not (same_key x.key k)) c.put_in.new.self) c.of-key.ensures
    ∙ forgotten_by q c.put_in.new.self
    ∙ ap (forgotten q) (c.put_in.ensures was)
    ∙ forgotten_there q ms place m c.requires.at (element ms place was c.requires.at.inside) c.from.result q.bytes in
    let written = c.append_to.ensures ∙ (λ j. c.in_ok-reserve.ensures.items j ++ message_of (slots j)) in
    answers_same q ms c.forget.new.self (forgotten q ms) buffer c.append_to.new.whole.items (buffer ++ message_of (with_bytes q.index q.bytes m.slots))
    (Ok Whole)
    after written
    (completes q ms place m c.requires.at (element ms place was c.requires.at.inside) buffer (c.requires.counted was) (c.requires.last was))
