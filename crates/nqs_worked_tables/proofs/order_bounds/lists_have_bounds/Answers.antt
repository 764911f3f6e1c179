use Rattle.std.proofs.Common.{refl}
use Rattle.std.specs.Fmt.{digits}
use Rattle.nqs_worked_tables.proofs.order_bounds.lists_have_bounds.Goals as goal

pub returns-clause-queues : goal.returns-clause-queues
unfolding digits
returns-clause-queues c = refl

pub returns-clause-complexes : goal.returns-clause-complexes
unfolding digits
returns-clause-complexes c = refl

pub returns-clause-devices : goal.returns-clause-devices
unfolding digits
returns-clause-devices c = refl

pub returns-clause-managers : goal.returns-clause-managers
unfolding digits
returns-clause-managers c = refl

pub returns-clause-operators : goal.returns-clause-operators
unfolding digits
returns-clause-operators c = refl

pub returns-clause-held : goal.returns-clause-held
unfolding digits
returns-clause-held c = refl
