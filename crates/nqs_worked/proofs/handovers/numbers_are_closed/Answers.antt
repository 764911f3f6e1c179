use Rattle.std.proofs.Common.{refl}
use Rattle.std.specs.Fmt.{digits}
use Rattle.nqs_worked.proofs.handovers.numbers_are_closed.Goals as goal

pub returns-clause-closed : goal.returns-clause-closed
unfolding digits
returns-clause-closed c = refl

pub returns-clause-joined : goal.returns-clause-joined
unfolding digits
returns-clause-joined c = refl

pub returns-clause-raised : goal.returns-clause-raised
unfolding digits
returns-clause-raised c = refl

pub returns-clause-closed_alone : goal.returns-clause-closed_alone
unfolding digits
returns-clause-closed_alone c = refl

pub returns-clause-raised_alone : goal.returns-clause-raised_alone
unfolding digits
returns-clause-raised_alone c = refl
