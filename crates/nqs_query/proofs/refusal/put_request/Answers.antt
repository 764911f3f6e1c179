use Rattle.std.proofs.lemmas.Result.{on_err_weaker}
use Rattle.nqs_rules.specs.Text.{named_text}
use Rattle.nqs_put.proofs.Fronts.{behind_two}
use Rattle.nqs_query.proofs.refusal.put_request.Goals as goal

pub returns-clause-front : goal.returns-clause-front
returns-clause-front c =
    on_err_weaker c.put_text-2.result
    (behind_two c.args.out.now.items c.args.before.now (named_text c.args.id.now) c.args.after.now c.put_text.new.out.items c.put_named.new.out.items
    c.put_text-2.new.out.items c.in_ok-put_text.ensures.put c.in_ok-put_named.ensures.put)
    c.put_text-2.ensures.front
