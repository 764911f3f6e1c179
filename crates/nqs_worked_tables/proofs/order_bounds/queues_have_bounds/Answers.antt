use Rattle.std.proofs.Common.{refl}
use Rattle.std.specs.Fmt.{digits}
use Rattle.nqs_worked_tables.proofs.order_bounds.queues_have_bounds.Goals as goal

pub returns-clause-queues : goal.returns-clause-queues
unfolding digits
returns-clause-queues c = refl

pub returns-clause-devices : goal.returns-clause-devices
unfolding digits
returns-clause-devices c = refl

pub returns-clause-complexes : goal.returns-clause-complexes
unfolding digits
returns-clause-complexes c = refl
