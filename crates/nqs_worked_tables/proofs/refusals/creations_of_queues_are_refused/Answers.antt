use Rattle.std.proofs.Common.{refl}
use Rattle.std.specs.Fmt.{digits}
use Rattle.nqs_worked_tables.proofs.refusals.creations_of_queues_are_refused.Goals as goal

pub returns-clause-full : goal.returns-clause-full
unfolding digits
returns-clause-full c = refl

pub returns-clause-many : goal.returns-clause-many
unfolding digits
returns-clause-many c = refl

pub returns-clause-few : goal.returns-clause-few
unfolding digits
returns-clause-few c = refl
