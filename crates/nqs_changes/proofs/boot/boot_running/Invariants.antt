use Rattle.std.proofs.Common.{◌≡◌, drop}
use Rattle.nqs_state.specs.State.{content}
use Rattle.nqs_rules.specs.InOrder.{IsInOrder}
use Rattle.nqs_changes.specs.Running.{requests_booted}
use Rattle.nqs_changes.proofs.boot.boot_running.Given as goal

abbrev pub invariant-loop-id : goal.invariant-loop-id
invariant-loop-id l = IsInOrder (content l.state) × (requests_booted (drop l.id-index l.running) (content l.state)
    ≡ requests_booted l.running (content l.initial.state))
