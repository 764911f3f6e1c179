use Rattle.std.proofs.Common.{refl}
use Rattle.std.specs.Fmt.{digits}
use Rattle.nqs_worked_tables.proofs.texts.requests_are_listed.Goals as goal

pub returns-clause-all : goal.returns-clause-all
unfolding digits
returns-clause-all c = refl

pub returns-clause-user : goal.returns-clause-user
unfolding digits
returns-clause-user c = refl

pub returns-clause-queue : goal.returns-clause-queue
unfolding digits
returns-clause-queue c = refl

pub returns-clause-queues : goal.returns-clause-queues
unfolding digits
returns-clause-queues c = refl

pub returns-clause-nobody : goal.returns-clause-nobody
unfolding digits
returns-clause-nobody c = refl

pub returns-clause-states : goal.returns-clause-states
unfolding digits
returns-clause-states c = refl
