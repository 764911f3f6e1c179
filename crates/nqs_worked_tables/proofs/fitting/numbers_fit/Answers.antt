use Rattle.std.proofs.Common.{refl}
use Rattle.std.specs.Fmt.{digits}
use Rattle.nqs_worked_tables.proofs.fitting.numbers_fit.Goals as goal

pub returns-clause-rows : goal.returns-clause-rows
unfolding digits
returns-clause-rows c = refl

pub returns-clause-sequence : goal.returns-clause-sequence
unfolding digits
returns-clause-sequence c = refl

pub returns-clause-arrivals : goal.returns-clause-arrivals
unfolding digits
returns-clause-arrivals c = refl

pub returns-clause-moves : goal.returns-clause-moves
unfolding digits
returns-clause-moves c = refl

pub returns-clause-hops : goal.returns-clause-hops
unfolding digits
returns-clause-hops c = refl

pub returns-clause-refusals : goal.returns-clause-refusals
unfolding digits
returns-clause-refusals c = refl
