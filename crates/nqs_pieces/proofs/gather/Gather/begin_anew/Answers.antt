use Rattle.std.proofs.Common.{◌≡◌, ◌≤◌, refl, sym, ap, subst, arith, List, length, get_or, set, Ok}
use Rattle.std.proofs.lemmas.Result.{err_from_is_err_and}
use Rattle.nqs_pieces.specs.declared.gather.Gathered.{Gathered}
use Rattle.nqs_pieces.specs.declared.gather.Fed.TheVariants.{NotYet}
use Rattle.nqs_pieces.specs.Gathering.{begun, with_piece, Answers}
use Rattle.nqs_pieces.proofs.Feeding.{begins_anew, refused, element}
use Rattle.nqs_pieces.proofs.gather.Gather.begin_anew.Goals as goal

pub returns-in_err-message : goal.returns-in_err-message
returns-in_err-message c = λ buffer.
    let p = err_from_is_err_and c.from_residual.result c.from_residual.ensures.1 in
    refused c.args.piece c.args.self.now c.args.self.now buffer buffer c.from_residual.result p.0 p.1 refl refl

pub returns : goal.returns
returns c = λ buffer.
    let q = c.args.piece in
    let ms = c.args.self.now in
    let place = c.args.place in
    let some = c.in_ok-message.message in
    let few : length ms ≤ 8 = omega (arith, ap length c.self.view_is) in
    let same : set c.self.inside.messages.items place some ≡ set ms place (with_piece q (begun q)) =
    (λ j. set (c.self.view_is j) place (c.in_ok-message.ensures j)) in
    subst (λ (after : List Gathered). Answers q ms after buffer buffer (Ok NotYet)) (sym same)
    (begins_anew q ms place (get_or ms place some) c.requires.at (element ms place some c.requires.at.inside) buffer c.requires.form few
    (c.requires.other some))
