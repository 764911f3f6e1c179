use Rattle.std.proofs.Common.{refl}
use Rattle.std.specs.Fmt.{digits}
use Rattle.nqs_worked_tables.proofs.checkpoints.roots_name_journals.Goals as goal

pub returns-clause-second : goal.returns-clause-second
unfolding digits
returns-clause-second c = refl

pub returns-clause-active : goal.returns-clause-active
unfolding digits
returns-clause-active c = refl

pub returns-clause-resting : goal.returns-clause-resting
unfolding digits
returns-clause-resting c = refl

pub returns-clause-turned : goal.returns-clause-turned
unfolding digits
returns-clause-turned c = refl

pub returns-clause-due : goal.returns-clause-due
unfolding digits
returns-clause-due c = refl

pub returns-clause-same : goal.returns-clause-same
unfolding digits
returns-clause-same c = refl
