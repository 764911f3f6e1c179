use Rattle.std.specs.Prelude.{codes}
use Rattle.std.proofs.lemmas.Result.{err_from_is_err_and}
use Rattle.nqs_rules.specs.Text.{named_text}
use Rattle.nqs_put.proofs.Fronts.{first_put}
use Rattle.nqs_query.proofs.refusal.put_no_request.Goals as goal

pub returns-in_err-put_text-clause-front : goal.returns-in_err-put_text-clause-front
returns-in_err-put_text-clause-front c =
    let p = err_from_is_err_and c.from_residual.result c.from_residual.ensures.1 in
    rw p.1 (first_put _ (codes "no request ") (named_text c.args.id.now) _ c.in_err-put_text.ensures.front)
