use Rattle.std.proofs.Common.{refl}
use Rattle.std.specs.Fmt.{digits}
use Rattle.nqs_worked_tables.proofs.steps.submissions_are_answered.Goals as goal

pub returns-clause-default : goal.returns-clause-default
unfolding digits
returns-clause-default c = refl

pub returns-clause-paths : goal.returns-clause-paths
unfolding digits
returns-clause-paths c = refl

pub returns-clause-error_path : goal.returns-clause-error_path
unfolding digits
returns-clause-error_path c = refl

pub returns-clause-refused : goal.returns-clause-refused
unfolding digits
returns-clause-refused c = refl
