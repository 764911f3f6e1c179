use Rattle.std.proofs.Common.{◌∙◌}
use Rattle.nqs_state.specs.State.{content}
use Rattle.nqs_devices.proofs.Refusals.{remove_found, remove_absent}
use Rattle.nqs_devices.proofs.check.check_remove.Goals as goal

pub returns-in-Some : goal.returns-in-Some
returns-in-Some c = c.check_member.ensures ∙ remove_found c.args.device.now c.args.queue.now (content c.args.state.now) c.in-Some.def.now c.in-Some.ensures

pub returns-in-None : goal.returns-in-None
returns-in-None c = remove_absent c.args.device.now c.args.queue.now (content c.args.state.now) c.in-None.ensures
