use Rattle.std.proofs.Common.{refl}
use Rattle.std.specs.Fmt.{digits}
use Rattle.nqs_worked.proofs.checkpoints.root_stays.Goals as goal

pub returns-clause-told : goal.returns-clause-told
unfolding digits
returns-clause-told c = refl

pub returns-clause-left : goal.returns-clause-left
unfolding digits
returns-clause-left c = refl
