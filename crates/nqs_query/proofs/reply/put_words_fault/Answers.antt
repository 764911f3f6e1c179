use Rattle.std.proofs.Common.{◌++◌, List, ℕ, ap, ◌∙◌}
use Rattle.std.specs.Prelude.{codes}
use Rattle.std.specs.Fmt.{decimal}
use Rattle.std.proofs.lemmas.Result.{err_from_is_err_and, on_err_weaker}
use Rattle.nqs_rules.specs.Transcript.{in_script, words_text}
use Rattle.nqs_put.proofs.Fronts.{same_put, first_put, behind_two}
use Rattle.nqs_query.proofs.Texts.{behind_three, behind_four}
use Rattle.nqs_query.proofs.reply.put_words_fault.Goals as goal

pub returns-in_err-put_text-clause-front : goal.returns-in_err-put_text-clause-front
returns-in_err-put_text-clause-front c =
    let p = err_from_is_err_and c.from_residual.result c.from_residual.ensures.1 in
    let f = c.args.fault in
    let word = codes "Bad word " in
    rw p.1 (first_put _ (word ++ decimal f.word ++ in_script f.line ++ codes ": ") (words_text f.cause) _
    (first_put _ (word ++ decimal f.word ++ in_script f.line) (codes ": ") _ (first_put _ (word ++ decimal f.word) (in_script f.line) _
    (first_put _ word (decimal f.word) _ c.in_err-put_text.ensures.front))))

pub returns-in_err-put_in_script-clause-front : goal.returns-in_err-put_in_script-clause-front
returns-in_err-put_in_script-clause-front c =
    let p = err_from_is_err_and c.from_residual-in_err-put_in_script.result c.from_residual-in_err-put_in_script.ensures.1 in
    let f = c.args.fault in
    let word = codes "Bad word " in
    let numbered = c.in_ok-put_decimal.ensures.put ∙ ap (λ (n : ℕ). c.put_text.new.out.items ++ decimal n) c.from.ensures in
    rw p.1 (first_put _ (word ++ decimal f.word ++ in_script f.line ++ codes ": ") (words_text f.cause) _
    (first_put _ (word ++ decimal f.word ++ in_script f.line) (codes ": ") _
    (behind_two c.args.out.now.items word (decimal f.word) (in_script f.line) c.put_text.new.out.items c.put_decimal.new.out.items
    c.put_in_script.new.out.items c.in_ok-put_text.ensures.put numbered c.in_err-put_in_script.ensures.front)))

pub returns-in_err-put_text-2-clause-front : goal.returns-in_err-put_text-2-clause-front
returns-in_err-put_text-2-clause-front c =
    let p = err_from_is_err_and c.from_residual-in_err-put_text-2.result c.from_residual-in_err-put_text-2.ensures.1 in
    let f = c.args.fault in
    let word = codes "Bad word " in
    let numbered = c.in_ok-put_decimal.ensures.put ∙ ap (λ (n : ℕ). c.put_text.new.out.items ++ decimal n) c.from.ensures in
    rw p.1 (first_put _ (word ++ decimal f.word ++ in_script f.line ++ codes ": ") (words_text f.cause) _
    (behind_three c.args.out.now.items word (decimal f.word) (in_script f.line) (codes ": ") c.put_text.new.out.items c.put_decimal.new.out.items
    c.put_in_script.new.out.items c.put_text-2.new.out.items c.in_ok-put_text.ensures.put numbered c.in_ok-put_in_script.ensures.put
    c.in_err-put_text-2.ensures.front))

pub returns-clause-front : goal.returns-clause-front
returns-clause-front c =
    let f = c.args.fault in
    let word = codes "Bad word " in
    let numbered = c.in_ok-put_decimal.ensures.put ∙ ap (λ (n : ℕ). c.put_text.new.out.items ++ decimal n) c.from.ensures in
    on_err_weaker c.put_text-3.result
    (λ by. behind_four c.args.out.now.items word (decimal f.word) (in_script f.line) (codes ": ") (words_text f.cause) c.put_text.new.out.items
    c.put_decimal.new.out.items c.put_in_script.new.out.items c.put_text-2.new.out.items c.put_text-3.new.out.items c.in_ok-put_text.ensures.put
    numbered c.in_ok-put_in_script.ensures.put c.in_ok-put_text-2.ensures.put
    (same_put _ c.words_text.result.now (words_text f.cause) _ c.words_text.ensures by))
    c.put_text-3.ensures.front
