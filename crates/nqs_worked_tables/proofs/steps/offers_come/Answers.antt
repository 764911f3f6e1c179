use Rattle.std.proofs.Common.{refl}
use Rattle.std.specs.Fmt.{digits}
use Rattle.nqs_worked_tables.proofs.steps.offers_come.Goals as goal

pub returns-clause-third : goal.returns-clause-third
unfolding digits
returns-clause-third c = refl

pub returns-clause-second : goal.returns-clause-second
unfolding digits
returns-clause-second c = refl
