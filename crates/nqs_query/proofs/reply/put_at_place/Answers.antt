use Rattle.std.proofs.Common.{◌++◌}
use Rattle.std.specs.Prelude.{codes}
use Rattle.std.specs.Fmt.{decimal}
use Rattle.std.proofs.lemmas.Result.{err_from_is_err_and, on_ok_weaker, on_err_weaker}
use Rattle.nqs_put.proofs.Fronts.{first_put, behind_put, behind_two}
use Rattle.nqs_query.proofs.Texts.{four, behind_three}
use Rattle.nqs_query.proofs.reply.put_at_place.Goals as goal

pub returns-clause-put : goal.returns-clause-put
returns-clause-put c =
    on_ok_weaker c.put_text-3.result
    (four c.args.out.now.items (codes "Bad line at ") (decimal c.args.place)
    (codes ": ") c.args.cause.now c.put_text.new.out.items c.put_decimal.new.out.items c.put_text-2.new.out.items c.put_text-3.new.out.items
    c.in_ok-put_text.ensures.put c.in_ok-put_decimal.ensures.put c.in_ok-put_text-2.ensures.put)
    c.put_text-3.ensures.put

pub returns-clause-front : goal.returns-clause-front
returns-clause-front c =
    on_err_weaker c.put_text-3.result
    (behind_three c.args.out.now.items (codes "Bad line at ") (decimal c.args.place)
    (codes ": ") c.args.cause.now c.put_text.new.out.items c.put_decimal.new.out.items c.put_text-2.new.out.items c.put_text-3.new.out.items
    c.in_ok-put_text.ensures.put c.in_ok-put_decimal.ensures.put c.in_ok-put_text-2.ensures.put)
    c.put_text-3.ensures.front

pub returns-in_err-put_text-clause-front : goal.returns-in_err-put_text-clause-front
returns-in_err-put_text-clause-front c =
    let p = err_from_is_err_and c.from_residual.result c.from_residual.ensures.1 in
    let line = codes "Bad line at " in
    let place = decimal c.args.place in
    rw p.1 (first_put _ (line ++ place ++ codes ": ") c.args.cause.now _ (first_put _ (line ++ place) (codes ": ") _
    (first_put _ line place _ c.in_err-put_text.ensures.front)))

pub returns-in_err-put_decimal-clause-front : goal.returns-in_err-put_decimal-clause-front
returns-in_err-put_decimal-clause-front c =
    let p = err_from_is_err_and c.from_residual-in_err-put_decimal.result c.from_residual-in_err-put_decimal.ensures.1 in
    let line = codes "Bad line at " in
    let place = decimal c.args.place in
    rw p.1 (first_put _ (line ++ place ++ codes ": ") c.args.cause.now _ (first_put _ (line ++ place) (codes ": ") _
    (behind_put _ line place _ _ c.in_ok-put_text.ensures.put c.in_err-put_decimal.ensures.front)))

pub returns-in_err-put_text-2-clause-front : goal.returns-in_err-put_text-2-clause-front
returns-in_err-put_text-2-clause-front c =
    let p = err_from_is_err_and c.from_residual-in_err-put_text-2.result c.from_residual-in_err-put_text-2.ensures.1 in
    let line = codes "Bad line at " in
    let place = decimal c.args.place in
    rw p.1 (first_put _ (line ++ place ++ codes ": ") c.args.cause.now _
    (behind_two c.args.out.now.items line place (codes ": ") c.put_text.new.out.items c.put_decimal.new.out.items c.put_text-2.new.out.items
    c.in_ok-put_text.ensures.put c.in_ok-put_decimal.ensures.put c.in_err-put_text-2.ensures.front))
