use Rattle.std.proofs.Common.{refl}
use Rattle.std.specs.Fmt.{digits}
use Rattle.nqs_worked.proofs.definitions.plans_are_made.Goals as goal

pub returns-clause-puts : goal.returns-clause-puts
unfolding digits
returns-clause-puts c = refl

pub returns-clause-outputs : goal.returns-clause-outputs
unfolding digits
returns-clause-outputs c = refl

pub returns-clause-reads : goal.returns-clause-reads
unfolding digits
returns-clause-reads c = refl
