use Rattle.std.proofs.Common.{◌≡◌, ◌<◌, refl, sym, ◌∙◌, ap, arith, ◌++◌, ◌∷◌, [], length, drop}
use Rattle.std.proofs.lemmas.List.{length-append}
use Rattle.std.proofs.lemmas.Result.{err_from_is_err_and}
use Rattle.nqs_pieces.specs.Gathering.{begun, with_piece}
use Rattle.nqs_pieces.proofs.Feeding.{begins, refused, too_many, few_enough}
use Rattle.nqs_pieces.proofs.gather.Gather.begin.Goals as goal

pub returns-in_err-message : goal.returns-in_err-message
returns-in_err-message c = λ buffer.
    let p = err_from_is_err_and c.from_residual.result c.from_residual.ensures.1 in
    refused c.args.piece c.args.self.now c.args.self.now buffer buffer c.from_residual.result p.0 p.1 refl refl

pub returns-in_err-push : goal.returns-in_err-push
returns-in_err-push c = λ buffer.
    let p = err_from_is_err_and c.from_residual-in_err-push.result c.from_residual-in_err-push.ensures.1 in
    refused c.args.piece c.args.self.now c.push.new.self.items buffer buffer c.from_residual-in_err-push.result p.0 p.1
    (c.in_err-push.ensures.items ∙ c.self.view_is) refl

pub returns-then-len-gt-MESSAGES : goal.returns-then-len-gt-MESSAGES
returns-then-len-gt-MESSAGES c = λ buffer.
    let q = c.args.piece in
    let ms = c.args.self.now in
    let m = with_piece q (begun q) in
    let pushed : c.push.new.self.items ≡ ms ++ m ∷ [] = c.in_ok-push.ensures.items ∙ (λ j. c.self.view_is j ++ c.in_ok-message.ensures j ∷ []) in
    let long = ap length pushed ∙ length-append ms (m ∷ []) in
    let eight : length ms ≡ 8 = omega (arith, long, ap length c.self.view_is) in
    begins q ms c.remove-first.new.self.items buffer c.requires.form c.requires.new
    (sym (too_many ms m eight) ∙ ap (drop 1) (sym pushed) ∙ sym c.remove-first.ensures.by_index.2)

pub returns-else-len-gt-MESSAGES : goal.returns-else-len-gt-MESSAGES
returns-else-len-gt-MESSAGES c = λ buffer.
    let q = c.args.piece in
    let ms = c.args.self.now in
    let m = with_piece q (begun q) in
    let pushed : c.push.new.self.items ≡ ms ++ m ∷ [] = c.in_ok-push.ensures.items ∙ (λ j. c.self.view_is j ++ c.in_ok-message.ensures j ∷ []) in
    let long = ap length pushed ∙ length-append ms (m ∷ []) in
    let few : length ms < 8 = omega (arith, long, ap length c.self.view_is) in
    begins q ms c.push.new.self.items buffer c.requires.form c.requires.new (few_enough ms m few ∙ sym pushed)
