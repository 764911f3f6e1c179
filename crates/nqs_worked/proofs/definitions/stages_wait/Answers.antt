use Rattle.std.proofs.Common.{refl}
use Rattle.std.specs.Fmt.{digits}
use Rattle.nqs_worked.proofs.definitions.stages_wait.Goals as goal

pub returns-clause-first : goal.returns-clause-first
unfolding digits
returns-clause-first c = refl

pub returns-clause-behind : goal.returns-clause-behind
unfolding digits
returns-clause-behind c = refl

pub returns-clause-next : goal.returns-clause-next
unfolding digits
returns-clause-next c = refl

pub returns-clause-unknown : goal.returns-clause-unknown
unfolding digits
returns-clause-unknown c = refl
