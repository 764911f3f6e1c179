use Rattle.std.proofs.Common.{refl}
use Rattle.std.specs.Fmt.{digits}
use Rattle.nqs_worked.proofs.definitions.refusals_are_noted.Goals as goal

pub returns-clause-all : goal.returns-clause-all
unfolding digits
returns-clause-all c = refl

pub returns-clause-some : goal.returns-clause-some
unfolding digits
returns-clause-some c = refl

pub returns-clause-both : goal.returns-clause-both
unfolding digits
returns-clause-both c = refl

pub returns-clause-removed : goal.returns-clause-removed
unfolding digits
returns-clause-removed c = refl

pub returns-clause-none : goal.returns-clause-none
unfolding digits
returns-clause-none c = refl
