use Rattle.std.proofs.Common.{refl}
use Rattle.std.specs.Fmt.{digits}
use Rattle.nqs_worked_tables.proofs.commands.commands_have_ranks.Goals as goal

pub returns-clause-operators : goal.returns-clause-operators
unfolding digits
returns-clause-operators c = refl

pub returns-clause-queues : goal.returns-clause-queues
unfolding digits
returns-clause-queues c = refl

pub returns-clause-others : goal.returns-clause-others
unfolding digits
returns-clause-others c = refl

pub returns-clause-shutdown : goal.returns-clause-shutdown
unfolding digits
returns-clause-shutdown c = refl

pub returns-clause-anybody : goal.returns-clause-anybody
unfolding digits
returns-clause-anybody c = refl
