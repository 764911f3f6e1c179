use Rattle.std.proofs.Common.{refl}
use Rattle.std.specs.Fmt.{digits}
use Rattle.nqs_worked_tables.proofs.refusals.submissions_are_refused.Goals as goal

pub returns-clause-queue : goal.returns-clause-queue
unfolding digits
returns-clause-queue c = refl

pub returns-clause-gone : goal.returns-clause-gone
unfolding digits
returns-clause-gone c = refl

pub returns-clause-stated : goal.returns-clause-stated
unfolding digits
returns-clause-stated c = refl

pub returns-clause-way : goal.returns-clause-way
unfolding digits
returns-clause-way c = refl

pub returns-clause-full : goal.returns-clause-full
unfolding digits
returns-clause-full c = refl
