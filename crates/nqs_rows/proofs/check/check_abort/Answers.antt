use Rattle.std.proofs.Common.{◌∙◌}
use Rattle.nqs_state.specs.State.{content}
use Rattle.nqs_rows.proofs.Refusals.{abort_found, abort_absent}
use Rattle.nqs_rows.proofs.check.check_abort.Goals as goal

pub returns-in-Some : goal.returns-in-Some
returns-in-Some c = c.check_kind.ensures ∙ abort_found (content c.args.state.now) c.args.queue.now c.in-Some.def.now c.in-Some.ensures

pub returns-in-None : goal.returns-in-None
returns-in-None c = abort_absent (content c.args.state.now) c.args.queue.now c.in-None.ensures
