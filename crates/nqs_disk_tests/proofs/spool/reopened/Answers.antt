use Rattle.std.proofs.Common.{arith}
use Rattle.nqs_disk_tests.proofs.spool.reopened.Goals as goal

pub load-requires-clause-apart : goal.load-requires-clause-apart
load-requires-clause-apart c = rw (c.at.ensures, c.at-2.ensures) ((omega arith, tt), (tt, tt))

pub load-requires-clause-small : goal.load-requires-clause-small
load-requires-clause-small c = rw (c.at.ensures, c.at-2.ensures) (omega arith, (omega arith, tt))

pub load-requires-clause-within : goal.load-requires-clause-within
load-requires-clause-within c = λ told.
    rw (c.at.ensures, c.at-2.ensures) (omega arith, (omega (arith, c.in_ok-disk.ensures.long), tt))
