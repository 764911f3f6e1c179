use Rattle.std.proofs.Common.{◌++◌, ℕ, ap, ◌∙◌}
use Rattle.std.specs.Prelude.{codes}
use Rattle.std.specs.Fmt.{decimal}
use Rattle.std.proofs.lemmas.Result.{err_from_is_err_and, on_err_weaker}
use Rattle.nqs_rules.specs.Causes.{refusal_number}
use Rattle.nqs_rules.specs.Transcript.{refusal_text}
use Rattle.nqs_put.proofs.Fronts.{first_put}
use Rattle.nqs_query.proofs.Texts.{behind_three, behind_four}
use Rattle.nqs_query.proofs.reply.put_refused.Goals as goal

pub returns-in_err-put_text-clause-front : goal.returns-in_err-put_text-clause-front
returns-in_err-put_text-clause-front c =
    let p = err_from_is_err_and c.from_residual.result c.from_residual.ensures.1 in
    let word = codes "Refused " in
    let number = decimal (refusal_number c.args.refusal.now) in
    let text = refusal_text c.args.refusal.now in
    rw p.1 (first_put _ (word ++ number ++ codes ": " ++ text) (codes ".") _ (first_put _ (word ++ number ++ codes ": ") text _
    (first_put _ (word ++ number) (codes ": ") _ (first_put _ word number _ c.in_err-put_text.ensures.front))))

pub returns-in_err-put_refusal-clause-front : goal.returns-in_err-put_refusal-clause-front
returns-in_err-put_refusal-clause-front c =
    let p = err_from_is_err_and c.from_residual-in_err-put_refusal.result c.from_residual-in_err-put_refusal.ensures.1 in
    let word = codes "Refused " in
    let number = decimal (refusal_number c.args.refusal.now) in
    let text = refusal_text c.args.refusal.now in
    let numbered = c.in_ok-put_decimal.ensures.put ∙ ap (λ (n : ℕ). c.put_text.new.out.items ++ decimal n) (c.from.ensures ∙ c.refusal_number.ensures) in
    rw p.1 (first_put _ (word ++ number ++ codes ": " ++ text) (codes ".") _
    (behind_three c.args.out.now.items word number (codes ": ") text c.put_text.new.out.items c.put_decimal.new.out.items c.put_text-2.new.out.items
    c.put_refusal.new.out.items c.in_ok-put_text.ensures.put numbered c.in_ok-put_text-2.ensures.put c.in_err-put_refusal.ensures.front))

pub returns-clause-front : goal.returns-clause-front
returns-clause-front c =
    let word = codes "Refused " in
    let number = decimal (refusal_number c.args.refusal.now) in
    let text = refusal_text c.args.refusal.now in
    let numbered = c.in_ok-put_decimal.ensures.put ∙ ap (λ (n : ℕ). c.put_text.new.out.items ++ decimal n) (c.from.ensures ∙ c.refusal_number.ensures) in
    on_err_weaker c.put_text-3.result
    (behind_four c.args.out.now.items word number (codes ": ") text (codes ".") c.put_text.new.out.items c.put_decimal.new.out.items
    c.put_text-2.new.out.items c.put_refusal.new.out.items c.put_text-3.new.out.items c.in_ok-put_text.ensures.put numbered
    c.in_ok-put_text-2.ensures.put c.in_ok-put_refusal.ensures.put)
    c.put_text-3.ensures.front
