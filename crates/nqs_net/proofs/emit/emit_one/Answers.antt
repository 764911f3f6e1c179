use Rattle.std.proofs.lemmas.Result.{err_from_is_err_and}
use Rattle.nqs_net.proofs.Fronts.{none_shown}
use Rattle.nqs_net.proofs.emit.emit_one.Goals as goal

pub returns-in_err-push_some-clause-front : goal.returns-in_err-push_some-clause-front
returns-in_err-push_some-clause-front c =
    let p = err_from_is_err_and c.from_residual.result c.from_residual.ensures.1 in
    rw p.1 (none_shown c.args.turn.now.seen.now.items c.push_some.new.list.items _ c.in_err-push_some.ensures.refused)
