use Rattle.std.proofs.Common.{refl}
use Rattle.std.specs.Fmt.{digits}
use Rattle.nqs_worked.proofs.definitions.clients_are_answered.Goals as goal

pub returns-clause-unknown : goal.returns-clause-unknown
unfolding digits
returns-clause-unknown c = refl

pub returns-clause-ended : goal.returns-clause-ended
unfolding digits
returns-clause-ended c = refl

pub returns-clause-world : goal.returns-clause-world
unfolding digits
returns-clause-world c = refl

pub returns-clause-hosts : goal.returns-clause-hosts
unfolding digits
returns-clause-hosts c = refl
