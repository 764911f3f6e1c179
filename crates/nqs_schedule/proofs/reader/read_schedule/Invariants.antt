use Rattle.std.proofs.Common.{◌≡◌, ℕ, ◌+◌, ◌≤◌, List, length}
use Rattle.nqs_schedule.specs.Schedule.{Front}
use Rattle.nqs_schedule.specs.Taking.{state_of}
use Rattle.nqs_schedule.proofs.reader.read_schedule.Given as goal

abbrev pub invariant-loop-rest : goal.invariant-loop-rest
invariant-loop-rest l = record {
  so_far : (lines : List (List ℕ)) × Front l.bytes lines (state_of l.reading) l.rest × (l.number ≡ length lines + 1);
  fits : l.number + length l.rest ≤ length l.bytes + 1;
}

abbrev pub decreases-loop-rest : goal.decreases-loop-rest
decreases-loop-rest l = length l.rest
