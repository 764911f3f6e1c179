use Rattle.std.proofs.Common.{refl}
use Rattle.std.specs.Fmt.{digits}
use Rattle.nqs_worked_tables.proofs.choices.devices_are_free.Goals as goal

pub returns-clause-forms : goal.returns-clause-forms
unfolding digits
returns-clause-forms c = refl

pub returns-clause-busy : goal.returns-clause-busy
unfolding digits
returns-clause-busy c = refl

pub returns-clause-picks : goal.returns-clause-picks
unfolding digits
returns-clause-picks c = refl

pub returns-clause-batch : goal.returns-clause-batch
unfolding digits
returns-clause-batch c = refl
