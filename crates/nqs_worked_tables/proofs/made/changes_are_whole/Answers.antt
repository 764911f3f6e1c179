use Rattle.std.proofs.Common.{refl}
use Rattle.std.specs.Fmt.{digits}
use Rattle.nqs_worked_tables.proofs.made.changes_are_whole.Goals as goal

pub returns-clause-site : goal.returns-clause-site
unfolding digits
returns-clause-site c = refl

pub returns-clause-replaced : goal.returns-clause-replaced
unfolding digits
returns-clause-replaced c = refl

pub returns-clause-parts : goal.returns-clause-parts
unfolding digits
returns-clause-parts c = refl

pub returns-clause-planned : goal.returns-clause-planned
unfolding digits
returns-clause-planned c = refl
