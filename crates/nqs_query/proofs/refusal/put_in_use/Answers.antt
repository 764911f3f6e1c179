use Rattle.std.proofs.Common.{◌++◌}
use Rattle.std.specs.Prelude.{codes}
use Rattle.std.specs.Fmt.{decimal}
use Rattle.std.proofs.lemmas.Result.{err_from_is_err_and, on_err_weaker}
use Rattle.nqs_put.proofs.Fronts.{first_put, behind_two}
use Rattle.nqs_query.proofs.refusal.put_in_use.Goals as goal

pub returns-in_err-put_about-clause-front : goal.returns-in_err-put_about-clause-front
returns-in_err-put_about-clause-front c =
    let p = err_from_is_err_and c.from_residual.result c.from_residual.ensures.1 in
    let about = codes "queue " ++ c.args.queue.now ++ codes " holds " in
    rw p.1 (first_put _ (about ++ decimal c.args.count) (codes " requests") _
    (first_put _ about (decimal c.args.count) _ c.in_err-put_about.ensures.front))

pub returns-clause-front : goal.returns-clause-front
returns-clause-front c =
    let about = codes "queue " ++ c.args.queue.now ++ codes " holds " in
    on_err_weaker c.put_text.result
    (behind_two c.args.out.now.items about (decimal c.args.count) (codes " requests") c.put_about.new.out.items c.put_decimal.new.out.items
    c.put_text.new.out.items c.in_ok-put_about.ensures.put c.in_ok-put_decimal.ensures.put)
    c.put_text.ensures.front
