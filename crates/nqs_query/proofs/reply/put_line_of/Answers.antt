use Rattle.std.proofs.Common.{ap}
use Rattle.std.specs.Prelude.{codes}
use Rattle.std.specs.Fmt.{decimal}
use Rattle.std.proofs.lemmas.Result.{err_from_is_err_and, on_err_weaker}
use Rattle.nqs_put.proofs.Fronts.{same_put, first_put, behind_put}
use Rattle.nqs_query.proofs.reply.put_line_of.Goals as goal

pub returns-in_err-put_text-clause-front : goal.returns-in_err-put_text-clause-front
returns-in_err-put_text-clause-front c =
    let p = err_from_is_err_and c.from_residual.result c.from_residual.ensures.1 in
    rw p.1 (first_put _ (codes " in script line ") (decimal c.args.line) _ c.in_err-put_text.ensures.front)

pub returns-clause-front : goal.returns-clause-front
returns-clause-front c =
    on_err_weaker c.put_decimal.result
    (λ by. behind_put c.args.out.now.items (codes " in script line ") (decimal c.args.line) c.put_text.new.out.items c.put_decimal.new.out.items
    c.in_ok-put_text.ensures.put (same_put _ _ (decimal c.args.line) _ (ap decimal c.from.ensures) by))
    c.put_decimal.ensures.front
