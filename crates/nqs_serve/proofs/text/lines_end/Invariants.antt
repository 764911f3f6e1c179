use Rattle.std.proofs.Common.{◌≡◌, ◌≤◌, take, length}
use Rattle.nqs_serve.specs.Letters.{whole_lines}
use Rattle.nqs_serve.proofs.text.lines_end.Given as goal

abbrev pub invariant-loop-end : goal.invariant-loop-end
invariant-loop-end l = record {
  within : l.end ≤ length l.text;
  lines : whole_lines (take l.end l.text) ≡ whole_lines l.text;
}

abbrev pub decreases-loop-end : goal.decreases-loop-end
decreases-loop-end l = l.end
