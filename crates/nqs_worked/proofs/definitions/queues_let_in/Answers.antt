use Rattle.std.proofs.Common.{refl}
use Rattle.std.specs.Fmt.{digits}
use Rattle.nqs_worked.proofs.definitions.queues_let_in.Goals as goal

pub returns-clause-direct : goal.returns-clause-direct
unfolding digits
returns-clause-direct c = refl

pub returns-clause-pipe : goal.returns-clause-pipe
unfolding digits
returns-clause-pipe c = refl

pub returns-clause-limits : goal.returns-clause-limits
unfolding digits
returns-clause-limits c = refl

pub returns-clause-conf : goal.returns-clause-conf
unfolding digits
returns-clause-conf c = refl

pub returns-clause-edits : goal.returns-clause-edits
unfolding digits
returns-clause-edits c = refl

pub returns-clause-rows : goal.returns-clause-rows
unfolding digits
returns-clause-rows c = refl
