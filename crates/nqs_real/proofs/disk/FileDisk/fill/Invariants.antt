use Rattle.std.proofs.Common.{◌≡◌, ◌≤◌, length}
use Rattle.nqs_real.proofs.disk.FileDisk.fill.Given as goal

abbrev pub invariant-loop : goal.invariant-loop
invariant-loop l = (l.filled ≤ length l.buf) × (length l.buf ≡ length l.fn.buf)
