use Rattle.std.proofs.Common.{◌++◌, ◌∷◌, [], List, ℕ, ap, ◌∙◌}
use Rattle.std.proofs.lemmas.List.{take_all}
use Rattle.std.proofs.lemmas.Result.{err_from_is_err_and}
use Rattle.nqs_rules.specs.Transcript.{lines}
use Rattle.nqs_put.proofs.Fronts.{same_put, first_put, behind_put}
use Rattle.nqs_query.proofs.Texts.{line_put, front_in}
use Rattle.nqs_query.proofs.reply.put_lines.Goals as goal

pub loop-i-preserved : goal.loop-i-preserved
loop-i-preserved c = record {
  so_far = line_put c.args.texts.now c.loop-i.i c.index-texts-i.result c.args.out.now.items c.loop-i.out.items c.put_text.new.out.items
      c.put_line_end.new.out.items c.loop-i-test.true c.index-texts-i.is
      c.loop-i.invariant.so_far (c.in_ok-put_text.ensures.put ∙ ap (λ (l : List ℕ). c.loop-i.out.items ++ l) c.as_slice.ensures)
      c.in_ok-put_line_end.ensures.put;
}

pub returns-clause-put : goal.returns-clause-put
returns-clause-put c =
    c.loop-i.invariant.so_far
    ∙ ap (λ (l : List (List ℕ)). c.args.out.now.items ++ lines l) (take_all c.loop-i.i c.args.texts.now c.loop-i-test.false)

pub returns-in_err-put_text-clause-front : goal.returns-in_err-put_text-clause-front
returns-in_err-put_text-clause-front c =
    let p = err_from_is_err_and c.from_residual.result c.from_residual.ensures.1 in
    let text = c.index-texts-i.result in
    rw p.1 (front_in c.args.texts.now c.loop-i.i text c.args.out.now.items c.loop-i.out.items c.put_text.new.out.items c.loop-i-test.true c.index-texts-i.is
    c.loop-i.invariant.so_far (first_put c.loop-i.out.items text (10 ∷ []) c.put_text.new.out.items
    (same_put c.loop-i.out.items c.as_slice.result.now text c.put_text.new.out.items c.as_slice.ensures c.in_err-put_text.ensures.front)))

pub returns-in_err-put_line_end-clause-front : goal.returns-in_err-put_line_end-clause-front
returns-in_err-put_line_end-clause-front c =
    let p = err_from_is_err_and c.from_residual-in_err-put_line_end.result c.from_residual-in_err-put_line_end.ensures.1 in
    let text = c.index-texts-i.result in
    rw p.1 (front_in c.args.texts.now c.loop-i.i text c.args.out.now.items c.loop-i.out.items c.put_line_end.new.out.items c.loop-i-test.true
    c.index-texts-i.is c.loop-i.invariant.so_far (behind_put c.loop-i.out.items text (10 ∷ []) c.put_text.new.out.items c.put_line_end.new.out.items
    (c.in_ok-put_text.ensures.put ∙ ap (λ (l : List ℕ). c.loop-i.out.items ++ l) c.as_slice.ensures) c.in_err-put_line_end.ensures.front))
