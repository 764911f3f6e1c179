use Rattle.std.proofs.Common.{rules, ap}
use Rattle.nqs_state.specs.State.{content}
use Rattle.nqs_rules.specs.Devices.{device_edited}
use Rattle.nqs_devices.proofs.apply.change_device.Goals as goal

pub returns : goal.returns
returns c = ap (λ ds. record (content c.args.state.now) { devices = ds })
    (c.change.ensures.changed (device_edited c.args.edit.now) (λ v w found ran. search rules))
