use Rattle.std.proofs.Common.{refl}
use Rattle.std.specs.Fmt.{digits}
use Rattle.nqs_worked.proofs.handovers.ticks_raise_the_low.Goals as goal

pub returns-clause-early : goal.returns-clause-early
unfolding digits
returns-clause-early c = refl

pub returns-clause-silent : goal.returns-clause-silent
unfolding digits
returns-clause-silent c = refl

pub returns-clause-raised : goal.returns-clause-raised
unfolding digits
returns-clause-raised c = refl

pub returns-clause-committed : goal.returns-clause-committed
unfolding digits
returns-clause-committed c = refl
