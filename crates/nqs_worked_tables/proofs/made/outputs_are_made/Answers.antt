use Rattle.std.proofs.Common.{refl}
use Rattle.std.specs.Fmt.{digits}
use Rattle.nqs_worked_tables.proofs.made.outputs_are_made.Goals as goal

pub returns-clause-none : goal.returns-clause-none
unfolding digits
returns-clause-none c = refl

pub returns-clause-files : goal.returns-clause-files
unfolding digits
returns-clause-files c = refl

pub returns-clause-stages : goal.returns-clause-stages
unfolding digits
returns-clause-stages c = refl

pub returns-clause-last_file : goal.returns-clause-last_file
unfolding digits
returns-clause-last_file c = refl

pub returns-clause-last_stage : goal.returns-clause-last_stage
unfolding digits
returns-clause-last_stage c = refl

pub returns-clause-got : goal.returns-clause-got
unfolding digits
returns-clause-got c = refl

pub returns-clause-gone : goal.returns-clause-gone
unfolding digits
returns-clause-gone c = refl
