use Rattle.std.proofs.Common.{refl}
use Rattle.std.specs.Fmt.{digits}
use Rattle.nqs_worked.proofs.definitions.faults_are_told.Goals as goal

pub returns-clause-line : goal.returns-clause-line
unfolding digits
returns-clause-line c = refl

pub returns-clause-words : goal.returns-clause-words
unfolding digits
returns-clause-words c = refl
