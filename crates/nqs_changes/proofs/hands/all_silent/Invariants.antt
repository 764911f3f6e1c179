use Rattle.std.proofs.Common.{◌≡◌, drop}
use Rattle.nqs_state.specs.State.{content}
use Rattle.nqs_rules.specs.Applied.{hands_silent}
use Rattle.nqs_changes.proofs.hands.all_silent.Given as goal

abbrev pub invariant-loop-key : goal.invariant-loop-key
invariant-loop-key l = hands_silent l.until (drop l.key-index l.keys) (content l.state) ≡ hands_silent l.until l.keys (content l.initial.state)
