use Rattle.std.proofs.Common.{◌∙◌}
use Rattle.nqs_state.specs.State.{content}
use Rattle.nqs_step.proofs.Locals.{local_found, local_absent}
use Rattle.nqs_step.proofs.start.check_local.Goals as goal

pub returns-in-Some : goal.returns-in-Some
returns-in-Some c = c.check_found.ensures ∙ local_found (content c.args.state.now) c.args.queue.now c.args.row.now c.in-Some.def.now c.in-Some.ensures

pub returns-in-None : goal.returns-in-None
returns-in-None c = local_absent (content c.args.state.now) c.args.queue.now c.args.row.now c.in-None.ensures
