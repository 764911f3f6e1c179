use Rattle.std.proofs.Common.{◌≤◌, length}
use Rattle.nqs_real.proofs.site.read_site.Given as goal

abbrev pub invariant-loop-line : goal.invariant-loop-line
invariant-loop-line l = length l.site.items ≤ 16
