use Rattle.std.proofs.Common.{refl}
use Rattle.std.specs.Fmt.{digits}
use Rattle.nqs_worked_tables.proofs.refusals.local_destinations_refuse.Goals as goal

pub returns-clause-gone : goal.returns-clause-gone
unfolding digits
returns-clause-gone c = refl

pub returns-clause-way : goal.returns-clause-way
unfolding digits
returns-clause-way c = refl

pub returns-clause-pipe : goal.returns-clause-pipe
unfolding digits
returns-clause-pipe c = refl
