use Rattle.std.proofs.Common.{refl}
use Rattle.std.specs.Fmt.{digits}
use Rattle.nqs_worked_tables.proofs.steps.stages_come.Goals as goal

pub returns-clause-stage : goal.returns-clause-stage
unfolding digits
returns-clause-stage c = refl

pub returns-clause-last_file : goal.returns-clause-last_file
unfolding digits
returns-clause-last_file c = refl

pub returns-clause-staged : goal.returns-clause-staged
unfolding digits
returns-clause-staged c = refl

pub returns-clause-staged_last : goal.returns-clause-staged_last
unfolding digits
returns-clause-staged_last c = refl

pub returns-clause-clients : goal.returns-clause-clients
unfolding digits
returns-clause-clients c = refl

pub returns-clause-files : goal.returns-clause-files
unfolding digits
returns-clause-files c = refl

pub returns-clause-written_again : goal.returns-clause-written_again
unfolding digits
returns-clause-written_again c = refl

pub returns-clause-unwritten : goal.returns-clause-unwritten
unfolding digits
returns-clause-unwritten c = refl
