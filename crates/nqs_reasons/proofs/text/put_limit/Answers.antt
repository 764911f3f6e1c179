use Rattle.std.specs.Prelude.{◌++◌, codes}
use Rattle.std.specs.Fmt.{decimal}
use Rattle.std.proofs.lemmas.Result.{on_ok_weaker, on_err_weaker}
use Rattle.nqs_put.proofs.Fronts.{behind_two}
use Rattle.nqs_reasons.proofs.Texts.{three}
use Rattle.nqs_reasons.proofs.text.put_limit.Goals as goal

pub returns-clause-put : goal.returns-clause-put
returns-clause-put c =
    on_ok_weaker c.put_about.result
    (three c.args.out.now.items c.args.before.now (decimal c.args.limit) (c.args.of.now ++ c.args.name.now ++ codes " is reached")
    c.put_text.new.out.items c.put_decimal.new.out.items c.put_about.new.out.items
    c.in_ok-put_text.ensures.put c.in_ok-put_decimal.ensures.put)
    c.put_about.ensures.put

pub returns-clause-front : goal.returns-clause-front
returns-clause-front c =
    on_err_weaker c.put_about.result
    (behind_two c.args.out.now.items c.args.before.now (decimal c.args.limit) (c.args.of.now ++ c.args.name.now ++ codes " is reached")
    c.put_text.new.out.items c.put_decimal.new.out.items c.put_about.new.out.items
    c.in_ok-put_text.ensures.put c.in_ok-put_decimal.ensures.put)
    c.put_about.ensures.front
