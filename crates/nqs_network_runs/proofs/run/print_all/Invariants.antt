use Rattle.std.proofs.Common.{◌≡◌, ◌++◌, take}
use Rattle.nqs_rules.specs.Transcript.{transcript}
use Rattle.nqs_network_runs.proofs.run.print_all.Given as goal

abbrev pub invariant-loop-one : goal.invariant-loop-one
invariant-loop-one l = l.text.items ≡ l.fn.text.items ++ transcript l.site (take l.one-index l.seen)
