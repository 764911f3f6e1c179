use Rattle.std.proofs.Common.{◌≡◌, take}
use Rattle.std.specs.Prelude.{flat_map}
use Rattle.nqs_state.specs.State.{content}
use Rattle.nqs_rules.specs.Why.{told_lines}
use Rattle.nqs_reasons.proofs.lines.lines_of.Given as goal

abbrev pub invariant-loop-reason : goal.invariant-loop-reason
invariant-loop-reason l = l.lines ≡ flat_map (told_lines l.now (content l.state) l.row) (take l.reason-index l.reasons)
