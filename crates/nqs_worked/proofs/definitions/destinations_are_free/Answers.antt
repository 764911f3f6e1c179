use Rattle.std.proofs.Common.{refl}
use Rattle.std.specs.Fmt.{digits}
use Rattle.nqs_worked.proofs.definitions.destinations_are_free.Goals as goal

pub returns-clause-numbers : goal.returns-clause-numbers
unfolding digits
returns-clause-numbers c = refl

pub returns-clause-waits : goal.returns-clause-waits
unfolding digits
returns-clause-waits c = refl

pub returns-clause-hands : goal.returns-clause-hands
unfolding digits
returns-clause-hands c = refl

pub returns-clause-eight : goal.returns-clause-eight
unfolding digits
returns-clause-eight c = refl

pub returns-clause-committed : goal.returns-clause-committed
unfolding digits
returns-clause-committed c = refl

pub returns-clause-window : goal.returns-clause-window
unfolding digits
returns-clause-window c = refl

pub returns-clause-settled : goal.returns-clause-settled
unfolding digits
returns-clause-settled c = refl

pub returns-clause-refusals : goal.returns-clause-refusals
unfolding digits
returns-clause-refusals c = refl
