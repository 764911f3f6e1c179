use Rattle.std.proofs.Common.{refl}
use Rattle.std.specs.Fmt.{digits}
use Rattle.nqs_worked_tables.proofs.refusals.offers_are_refused.Goals as goal

pub returns-clause-exists : goal.returns-clause-exists
unfolding digits
returns-clause-exists c = refl

pub returns-clause-here : goal.returns-clause-here
unfolding digits
returns-clause-here c = refl

pub returns-clause-way : goal.returns-clause-way
unfolding digits
returns-clause-way c = refl

pub returns-clause-full : goal.returns-clause-full
unfolding digits
returns-clause-full c = refl
