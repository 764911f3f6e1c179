use Rattle.std.proofs.Common.{◌≡◌, ◌++◌, take}
use Rattle.nqs_rules.specs.Transcript.{lines}
use Rattle.nqs_query.proofs.reply.put_lines.Given as goal

abbrev pub invariant-loop-i : goal.invariant-loop-i
invariant-loop-i l = record { so_far : l.out.items ≡ l.fn.out.items ++ lines (take l.i l.texts) }
