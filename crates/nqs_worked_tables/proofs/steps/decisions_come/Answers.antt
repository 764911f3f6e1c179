use Rattle.std.proofs.Common.{refl}
use Rattle.std.specs.Fmt.{digits}
use Rattle.nqs_worked_tables.proofs.steps.decisions_come.Goals as goal

pub returns-clause-commit : goal.returns-clause-commit
unfolding digits
returns-clause-commit c = refl

pub returns-clause-commit_second : goal.returns-clause-commit_second
unfolding digits
returns-clause-commit_second c = refl

pub returns-clause-abort : goal.returns-clause-abort
unfolding digits
returns-clause-abort c = refl

pub returns-clause-abort_second : goal.returns-clause-abort_second
unfolding digits
returns-clause-abort_second c = refl

pub returns-clause-commit_again : goal.returns-clause-commit_again
unfolding digits
returns-clause-commit_again c = refl

pub returns-clause-stranger : goal.returns-clause-stranger
unfolding digits
returns-clause-stranger c = refl
