use Rattle.std.proofs.Common.{◌≡◌, sym, ◌∙◌, ap, refl, arith, length, get_or, set}
use Rattle.std.proofs.lemmas.Bool.{eq-eqb}
use Rattle.nqs_pieces.specs.Gathering.{begun, is_whole, with_bytes}
use Rattle.nqs_pieces.specs.Standing.{joined}
use Rattle.nqs_pieces.proofs.Feeding.{goes_on, answers_same, element}
use Rattle.nqs_pieces.specs.declared.gather.Fed.TheVariants.{NotYet}
use Rattle.std.proofs.Common.{Ok}
use Rattle.nqs_pieces.proofs.gather.Gather.go_on.Goals as goal

pub returns-then-not-lacks_only : goal.returns-then-not-lacks_only
returns-then-not-lacks_only c =
    let q = c.args.piece in
    let ms = c.args.self.now in
    let place = c.args.place in
    let m = get_or ms place (begun q) in
    let buffer = c.args.whole.now.items in
    let even : length m.slots ≡ q.count = omega (arith, c.count_at.ensures.count (begun q), c.from.ensures) in
    let lack = ap (λ i. is_whole (with_bytes i q.bytes m.slots)) (sym c.from-2.ensures) ∙ sym (c.lacks_only.ensures (begun q) q.bytes)
    ∙ c.if-not-lacks_only.true in
    let put = c.put_in.ensures (begun q) ∙ ap (λ i. set ms place (joined i q.bytes m)) c.from-then-not-lacks_only.ensures in
    answers_same q ms c.put_in.new.self (set ms place (joined q.index q.bytes m)) buffer buffer buffer (Ok NotYet) put refl
    (goes_on q ms place m c.requires.at (element ms place (begun q) c.requires.at.inside) buffer c.count_at.ensures.few
    (eq-eqb (length m.slots) q.count even) lack)
