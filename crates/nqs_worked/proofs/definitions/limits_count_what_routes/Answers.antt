use Rattle.std.proofs.Common.{refl}
use Rattle.std.specs.Fmt.{digits}
use Rattle.nqs_worked.proofs.definitions.limits_count_what_routes.Goals as goal

pub returns-clause-queue : goal.returns-clause-queue
unfolding digits
returns-clause-queue c = refl

pub returns-clause-owner : goal.returns-clause-owner
unfolding digits
returns-clause-owner c = refl

pub returns-clause-other : goal.returns-clause-other
unfolding digits
returns-clause-other c = refl

pub returns-clause-far : goal.returns-clause-far
unfolding digits
returns-clause-far c = refl
