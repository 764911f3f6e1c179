use Rattle.std.proofs.Common.{refl}
use Rattle.std.specs.Fmt.{digits}
use Rattle.nqs_worked_tables.proofs.refusals.deletions_of_queues_are_refused.Goals as goal

pub returns-clause-gone : goal.returns-clause-gone
unfolding digits
returns-clause-gone c = refl

pub returns-clause-used : goal.returns-clause-used
unfolding digits
returns-clause-used c = refl

pub returns-clause-promised : goal.returns-clause-promised
unfolding digits
returns-clause-promised c = refl
