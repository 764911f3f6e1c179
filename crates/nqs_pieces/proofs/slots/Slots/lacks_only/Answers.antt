use Rattle.std.proofs.Common.{◌≡◌, ◌+◌, suc, sym, ◌∙◌, arith, ap, ◌&&◌, take, drop}
use Rattle.std.proofs.lemmas.Bool.{and_left}
use Rattle.std.proofs.lemmas.List.{take_rest}
use Rattle.nqs_pieces.specs.Gathering.{is_whole}
use Rattle.nqs_pieces.proofs.SlotLaws.{whole-with_bytes}
use Rattle.nqs_pieces.proofs.slots.Slots.lacks_only.Goals as goal

pub returns-then-not-all_there : goal.returns-then-not-all_there
returns-then-not-all_there c = λ bytes.
    let i = c.args.index in
    let slots = c.args.self.now in
    let front = c.all_there.ensures ∙ ap (λ x. is_whole (take i x)) (c.deref.ensures.value ∙ c.self.view_is) in
    sym (whole-with_bytes i bytes slots (omega arith)
    ∙ and_left (is_whole (take i slots)) (is_whole (drop (suc i) slots)) (sym front ∙ c.if-not-all_there.true))

pub returns : goal.returns
returns c = λ bytes.
    let i = c.args.index in
    let slots = c.args.self.now in
    let next : i + 1 ≡ suc i = omega arith in
    let front = c.all_there.ensures ∙ ap (λ x. is_whole (take i x)) (c.deref.ensures.value ∙ c.self.view_is) in
    let back = c.all_there-2.ensures ∙ ap is_whole (take_rest c.deref-2.result.now (i + 1))
    ∙ ap (λ x. is_whole (drop (i + 1) x)) (c.deref-2.ensures.value ∙ c.self.view_is)
    ∙ ap (λ k. is_whole (drop k slots)) next in
    back ∙ sym (whole-with_bytes i bytes slots (omega arith) ∙ ap (λ b. b && is_whole (drop (suc i) slots)) (sym front ∙ c.if-not-all_there.false))
