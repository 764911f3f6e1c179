use Rattle.std.proofs.Common.{refl}
use Rattle.std.specs.Fmt.{digits}
use Rattle.nqs_worked_tables.proofs.bounds.edits_have_bounds.Goals as goal

pub returns-clause-queues : goal.returns-clause-queues
unfolding digits
returns-clause-queues c = refl

pub returns-clause-parameters : goal.returns-clause-parameters
unfolding digits
returns-clause-parameters c = refl

pub returns-clause-no_number : goal.returns-clause-no_number
unfolding digits
returns-clause-no_number c = refl

pub returns-clause-limits : goal.returns-clause-limits
unfolding digits
returns-clause-limits c = refl

pub returns-clause-no_limit : goal.returns-clause-no_limit
unfolding digits
returns-clause-no_limit c = refl

pub returns-clause-rows : goal.returns-clause-rows
unfolding digits
returns-clause-rows c = refl

pub returns-clause-classes : goal.returns-clause-classes
unfolding digits
returns-clause-classes c = refl
