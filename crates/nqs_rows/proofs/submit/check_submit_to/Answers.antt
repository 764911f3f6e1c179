use Rattle.std.proofs.Common.{◌∙◌}
use Rattle.nqs_state.specs.State.{content}
use Rattle.nqs_rows.proofs.Refusals.{submit_found, submit_absent}
use Rattle.nqs_rows.proofs.submit.check_submit_to.Goals as goal

pub returns-in-Some : goal.returns-in-Some
returns-in-Some c = c.check_into.ensures ∙ submit_found (content c.args.state.now) c.args.job.now c.args.queue.now c.in-Some.def.now c.in-Some.ensures

pub returns-in-None : goal.returns-in-None
returns-in-None c = submit_absent (content c.args.state.now) c.args.job.now c.args.queue.now c.in-None.ensures
