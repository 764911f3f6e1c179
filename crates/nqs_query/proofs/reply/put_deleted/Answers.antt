use Rattle.std.proofs.Common.{◌++◌}
use Rattle.std.specs.Prelude.{codes}
use Rattle.std.proofs.lemmas.Result.{err_from_is_err_and, on_err_weaker}
use Rattle.nqs_rules.specs.Text.{id_text}
use Rattle.nqs_put.proofs.Fronts.{first_put, behind_two}
use Rattle.nqs_query.proofs.reply.put_deleted.Goals as goal

pub returns-in_err-put_text-clause-front : goal.returns-in_err-put_text-clause-front
returns-in_err-put_text-clause-front c =
    let p = err_from_is_err_and c.from_residual.result c.from_residual.ensures.1 in
    let id = id_text c.args.site.now c.args.id in
    rw p.1 (first_put _ (codes "Request " ++ id) (codes " has been deleted.") _ (first_put _ (codes "Request ") id _ c.in_err-put_text.ensures.front))

pub returns-clause-front : goal.returns-clause-front
returns-clause-front c =
    let id = id_text c.args.site.now c.args.id in
    on_err_weaker c.put_text-2.result
    (behind_two c.args.out.now.items (codes "Request ") id (codes " has been deleted.") c.put_text.new.out.items c.put_id.new.out.items
    c.put_text-2.new.out.items c.in_ok-put_text.ensures.put c.in_ok-put_id.ensures.put)
    c.put_text-2.ensures.front
