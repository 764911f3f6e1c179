use Rattle.std.proofs.Common.{◌≡◌, drop}
use Rattle.nqs_schedule.specs.Summary.{summary_of}
use Rattle.nqs_network_runs.proofs.run.count_all.Given as goal

abbrev pub invariant-loop-i : goal.invariant-loop-i
invariant-loop-i l = record { so_far : summary_of l.summary (drop l.i l.seen) ≡ summary_of l.fn.summary l.seen }
