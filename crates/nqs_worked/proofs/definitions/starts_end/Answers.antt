use Rattle.std.proofs.Common.{refl}
use Rattle.std.specs.Fmt.{digits}
use Rattle.nqs_worked.proofs.definitions.starts_end.Goals as goal

pub returns-clause-again : goal.returns-clause-again
unfolding digits
returns-clause-again c = refl

pub returns-clause-last : goal.returns-clause-last
unfolding digits
returns-clause-last c = refl

pub returns-clause-doomed : goal.returns-clause-doomed
unfolding digits
returns-clause-doomed c = refl

pub returns-clause-once : goal.returns-clause-once
unfolding digits
returns-clause-once c = refl

pub returns-clause-device : goal.returns-clause-device
unfolding digits
returns-clause-device c = refl

pub returns-clause-others : goal.returns-clause-others
unfolding digits
returns-clause-others c = refl
