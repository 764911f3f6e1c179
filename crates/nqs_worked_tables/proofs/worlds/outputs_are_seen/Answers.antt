use Rattle.std.proofs.Common.{refl}
use Rattle.std.specs.Fmt.{digits}
use Rattle.nqs_worked_tables.proofs.worlds.outputs_are_seen.Goals as goal

pub returns-clause-kinds : goal.returns-clause-kinds
unfolding digits
returns-clause-kinds c = refl

pub returns-clause-numbers : goal.returns-clause-numbers
unfolding digits
returns-clause-numbers c = refl

pub returns-clause-sent : goal.returns-clause-sent
unfolding digits
returns-clause-sent c = refl

pub returns-clause-packets : goal.returns-clause-packets
unfolding digits
returns-clause-packets c = refl
