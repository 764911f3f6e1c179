use Rattle.std.proofs.Common.{◌≡◌, ◌+◌, ◌≤◌, ◌-◌, length, take}
use Rattle.nqs_index.specs.Indexed.{Stands}
use Rattle.nqs_index.proofs.index.Index.of.Given as goal

abbrev pub invariant-loop-place : goal.invariant-loop-place
invariant-loop-place g l = record {
  within : l.place ≤ length l.seats;
  stands : Stands l.index (take l.place l.seats);
  most : l.index.most ≡ l.most;
  rises : l.fn.steps ≤ l.steps;
  cost : l.steps ≤ l.fn.steps + l.place;
}

abbrev pub decreases-loop-place : goal.decreases-loop-place
decreases-loop-place g l = length l.seats - l.place
