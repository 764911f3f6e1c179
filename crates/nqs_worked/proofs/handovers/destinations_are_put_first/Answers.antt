use Rattle.std.proofs.Common.{refl}
use Rattle.std.specs.Fmt.{digits}
use Rattle.nqs_worked.proofs.handovers.destinations_are_put_first.Goals as goal

pub returns-clause-each : goal.returns-clause-each
unfolding digits
returns-clause-each c = refl

pub returns-clause-none : goal.returns-clause-none
unfolding digits
returns-clause-none c = refl

pub returns-clause-edited : goal.returns-clause-edited
unfolding digits
returns-clause-edited c = refl
