use Rattle.std.proofs.Common.{refl}
use Rattle.std.specs.Fmt.{digits}
use Rattle.nqs_worked_tables.proofs.checkpoints.roots_are_torn.Goals as goal

pub returns-clause-empty : goal.returns-clause-empty
unfolding digits
returns-clause-empty c = refl

pub returns-clause-empty_again : goal.returns-clause-empty_again
unfolding digits
returns-clause-empty_again c = refl

pub returns-clause-zero : goal.returns-clause-zero
unfolding digits
returns-clause-zero c = refl

pub returns-clause-one : goal.returns-clause-one
unfolding digits
returns-clause-one c = refl

pub returns-clause-one_again : goal.returns-clause-one_again
unfolding digits
returns-clause-one_again c = refl

pub returns-clause-two : goal.returns-clause-two
unfolding digits
returns-clause-two c = refl
