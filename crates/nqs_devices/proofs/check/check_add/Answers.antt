use Rattle.std.proofs.Common.{◌∙◌}
use Rattle.nqs_state.specs.State.{content}
use Rattle.nqs_devices.proofs.Refusals.{add_found, add_absent}
use Rattle.nqs_devices.proofs.check.check_add.Goals as goal

pub returns-in-Some : goal.returns-in-Some
returns-in-Some c = c.check_kind.ensures ∙ add_found c.args.device.now c.args.queue.now
    (content c.args.state.now) c.in-Some.def.now c.in_ok-check_device.ensures c.in-Some.ensures

pub returns-in-None : goal.returns-in-None
returns-in-None c = add_absent c.args.device.now c.args.queue.now (content c.args.state.now) c.in_ok-check_device.ensures c.in-None.ensures
