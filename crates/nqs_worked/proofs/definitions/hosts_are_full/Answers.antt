use Rattle.std.proofs.Common.{refl}
use Rattle.std.specs.Fmt.{digits}
use Rattle.nqs_worked.proofs.definitions.hosts_are_full.Goals as goal

pub returns-clause-submissions : goal.returns-clause-submissions
unfolding digits
returns-clause-submissions c = refl

pub returns-clause-same_peer : goal.returns-clause-same_peer
unfolding digits
returns-clause-same_peer c = refl

pub returns-clause-numbers : goal.returns-clause-numbers
unfolding digits
returns-clause-numbers c = refl

pub returns-clause-other_peer : goal.returns-clause-other_peer
unfolding digits
returns-clause-other_peer c = refl
