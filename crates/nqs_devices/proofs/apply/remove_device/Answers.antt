use Rattle.std.proofs.Common.{rules, ap}
use Rattle.nqs_state.specs.State.{content}
use Rattle.nqs_rules.specs.Devices.{without_device}
use Rattle.nqs_devices.proofs.apply.remove_device.Goals as goal

pub returns : goal.returns
returns c = ap (λ qs. record (content c.args.state.now) { queues = qs }) (c.change.ensures.changed (without_device c.args.device.now)
    (λ v w found ran. search rules))
