use Rattle.std.proofs.Common.{◌≡◌, ◌+◌, ◌≤◌, length}
use Rattle.nqs_rules.specs.Tests.{last_u64}
use Rattle.nqs_rules.specs.Stage.{files_written}
use Rattle.nqs_plans.specs.More.{with_more}
use Rattle.nqs_stage.proofs.end.add_files.Given as goal

abbrev pub invariant-loop-part : goal.invariant-loop-part
invariant-loop-part l = record {
  told : with_more l.plan (files_written l.number l.rest) ≡ with_more l.fn.plan (files_written l.fn.first l.fn.parts);
  few : l.number + length l.rest ≤ last_u64;
}

abbrev pub decreases-loop-part : goal.decreases-loop-part
decreases-loop-part l = length l.rest
