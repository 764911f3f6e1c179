use Rattle.std.proofs.Common.{◌∙◌}
use Rattle.nqs_state.specs.State.{content}
use Rattle.nqs_rows.proofs.Refusals.{move_found, move_absent}
use Rattle.nqs_rows.proofs.check.check_move.Goals as goal

pub returns-in-Some : goal.returns-in-Some
returns-in-Some c = c.check_move_to.ensures ∙ move_found (content c.args.state.now) c.args.id.now c.args.row.now c.args.queue.now c.in-Some.def.now
    c.in-Some.ensures

pub returns-in-None : goal.returns-in-None
returns-in-None c = move_absent (content c.args.state.now) c.args.id.now c.args.row.now c.args.queue.now c.in-None.ensures
