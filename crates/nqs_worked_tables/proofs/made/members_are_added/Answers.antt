use Rattle.std.proofs.Common.{refl}
use Rattle.std.specs.Fmt.{digits}
use Rattle.nqs_worked_tables.proofs.made.members_are_added.Goals as goal

pub returns-clause-complex : goal.returns-clause-complex
unfolding digits
returns-clause-complex c = refl

pub returns-clause-no_complex : goal.returns-clause-no_complex
unfolding digits
returns-clause-no_complex c = refl

pub returns-clause-queue : goal.returns-clause-queue
unfolding digits
returns-clause-queue c = refl

pub returns-clause-users : goal.returns-clause-users
unfolding digits
returns-clause-users c = refl

pub returns-clause-ranks : goal.returns-clause-ranks
unfolding digits
returns-clause-ranks c = refl

pub returns-clause-devices : goal.returns-clause-devices
unfolding digits
returns-clause-devices c = refl

pub returns-clause-no_device : goal.returns-clause-no_device
unfolding digits
returns-clause-no_device c = refl

pub returns-clause-members : goal.returns-clause-members
unfolding digits
returns-clause-members c = refl
