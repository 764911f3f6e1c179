use Rattle.std.proofs.Common.{length, sym}
use Rattle.std.proofs.lemmas.Result.{err_from_is_err_and}
use Rattle.nqs_laws.specs.Outputs.{seen_from}
use Rattle.nqs_net.proofs.Fronts.{shown_as, shown_before, first_shown}
use Rattle.nqs_net.proofs.emit.emit.Goals as goal

pub returns-in_err-emit_one-clause-front : goal.returns-in_err-emit_one-clause-front
returns-in_err-emit_one-clause-front c =
    let p = err_from_is_err_and c.from_residual.result c.from_residual.ensures.1 in
    let me = c.args.turn.now.me in
    let many = length c.loop-output.turn.packets.now.items in
    let output = c.in-Some.output in
    let before = c.args.turn.now.seen.now.items in
    let mid = c.loop-output.turn.seen.now.items in
    let after = c.emit_one.new.turn.seen.now.items in
    let (shown, grown, is) = c.loop-output.invariant.seen in
    let front = rw c.loop-output.invariant.same.me at c.in_err-emit_one.ensures.front in
    let first = first_shown me many output _ c.loop-output.rest mid after c.in-Some.ensures.some front in
    rw p.1 (shown_as before after _ _ (sym is) (shown_before before mid after shown (seen_from me many c.loop-output.rest) grown first))
