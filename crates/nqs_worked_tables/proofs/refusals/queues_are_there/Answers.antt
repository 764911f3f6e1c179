use Rattle.std.proofs.Common.{refl}
use Rattle.std.specs.Fmt.{digits}
use Rattle.nqs_worked_tables.proofs.refusals.queues_are_there.Goals as goal

pub returns-clause-none : goal.returns-clause-none
unfolding digits
returns-clause-none c = refl

pub returns-clause-there : goal.returns-clause-there
unfolding digits
returns-clause-there c = refl

pub returns-clause-parameters : goal.returns-clause-parameters
unfolding digits
returns-clause-parameters c = refl

pub returns-clause-aborts : goal.returns-clause-aborts
unfolding digits
returns-clause-aborts c = refl
