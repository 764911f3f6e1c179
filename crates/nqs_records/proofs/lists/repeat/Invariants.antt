use Rattle.std.proofs.Common.{◌≡◌}
use Rattle.nqs_records.specs.Reading.{repeated}
use Rattle.nqs_records.proofs.Fronts.{after}
use Rattle.nqs_records.proofs.lists.repeat.Given as goal

-- those that were read, and as many more as are left
abbrev pub invariant-loop-left : goal.invariant-loop-left
invariant-loop-left g l = repeated l.count g.T.Read.at l.bytes l.place ≡ after l.items.items (repeated l.left g.T.Read.at l.bytes l.here)

abbrev pub decreases-loop-left : goal.decreases-loop-left
decreases-loop-left g l = l.left
