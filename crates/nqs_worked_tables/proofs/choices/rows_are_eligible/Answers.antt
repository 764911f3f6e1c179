use Rattle.std.proofs.Common.{refl}
use Rattle.std.specs.Fmt.{digits}
use Rattle.nqs_worked_tables.proofs.choices.rows_are_eligible.Goals as goal

pub returns-clause-moments : goal.returns-clause-moments
unfolding digits
returns-clause-moments c = refl

pub returns-clause-queues : goal.returns-clause-queues
unfolding digits
returns-clause-queues c = refl

pub returns-clause-states : goal.returns-clause-states
unfolding digits
returns-clause-states c = refl

pub returns-clause-owners : goal.returns-clause-owners
unfolding digits
returns-clause-owners c = refl

pub returns-clause-strangers : goal.returns-clause-strangers
unfolding digits
returns-clause-strangers c = refl
