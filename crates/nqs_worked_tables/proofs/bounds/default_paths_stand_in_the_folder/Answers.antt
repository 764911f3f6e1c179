use Rattle.std.proofs.Common.{refl}
use Rattle.std.specs.Fmt.{digits}
use Rattle.nqs_worked_tables.proofs.bounds.default_paths_stand_in_the_folder.Goals as goal

pub returns-clause-default : goal.returns-clause-default
unfolding digits
returns-clause-default c = refl

pub returns-clause-error : goal.returns-clause-error
unfolding digits
returns-clause-error c = refl
