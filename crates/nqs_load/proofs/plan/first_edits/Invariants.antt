use Rattle.std.proofs.Common.{◌≡◌, map, take}
use Rattle.nqs_load.specs.Balance.{first_edit}
use Rattle.nqs_load.proofs.plan.first_edits.Given as goal

abbrev pub invariant-loop-load : goal.invariant-loop-load
invariant-loop-load l = l.edits.items ≡ map (first_edit l.pipe l.site) (take l.load-index l.loads)
