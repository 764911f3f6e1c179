use Rattle.std.proofs.Common.{refl}
use Rattle.std.specs.Fmt.{digits}
use Rattle.nqs_worked_tables.proofs.made.queues_are_made.Goals as goal

pub returns-clause-batch : goal.returns-clause-batch
unfolding digits
returns-clause-batch c = refl

pub returns-clause-device : goal.returns-clause-device
unfolding digits
returns-clause-device c = refl

pub returns-clause-pipe : goal.returns-clause-pipe
unfolding digits
returns-clause-pipe c = refl

pub returns-clause-no_dest : goal.returns-clause-no_dest
unfolding digits
returns-clause-no_dest c = refl

pub returns-clause-delete_default : goal.returns-clause-delete_default
unfolding digits
returns-clause-delete_default c = refl

pub returns-clause-delete_other : goal.returns-clause-delete_other
unfolding digits
returns-clause-delete_other c = refl

pub returns-clause-delete_from_complex : goal.returns-clause-delete_from_complex
unfolding digits
returns-clause-delete_from_complex c = refl
