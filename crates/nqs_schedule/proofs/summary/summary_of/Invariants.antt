use Rattle.std.proofs.Common.{◌≡◌, drop}
use Rattle.nqs_schedule.specs.Summary.{nothing_seen, summary_of}
use Rattle.nqs_schedule.proofs.summary.summary_of.Given as goal

abbrev pub invariant-loop-i : goal.invariant-loop-i
invariant-loop-i l = record { so_far : summary_of l.summary (drop l.i l.seen) ≡ summary_of nothing_seen l.seen }
