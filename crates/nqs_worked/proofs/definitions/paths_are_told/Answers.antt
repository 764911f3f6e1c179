use Rattle.std.proofs.Common.{refl}
use Rattle.std.specs.Fmt.{digits}
use Rattle.nqs_base.specs.Path.{has_parent}
use Rattle.nqs_worked.proofs.definitions.paths_are_told.Goals as goal

pub returns-clause-right : goal.returns-clause-right
unfolding digits has_parent
returns-clause-right c = refl

pub returns-clause-wrong : goal.returns-clause-wrong
unfolding digits has_parent
returns-clause-wrong c = refl
