use Rattle.std.proofs.Common.{refl}
use Rattle.std.specs.Fmt.{digits}
use Rattle.nqs_worked.proofs.definitions.numbers_end.Goals as goal

pub returns-clause-sequence : goal.returns-clause-sequence
unfolding digits
returns-clause-sequence c = refl

pub returns-clause-arrivals : goal.returns-clause-arrivals
unfolding digits
returns-clause-arrivals c = refl

pub returns-clause-offers : goal.returns-clause-offers
unfolding digits
returns-clause-offers c = refl

pub returns-clause-given : goal.returns-clause-given
unfolding digits
returns-clause-given c = refl

pub returns-clause-full_first : goal.returns-clause-full_first
unfolding digits
returns-clause-full_first c = refl

pub returns-clause-moves : goal.returns-clause-moves
unfolding digits
returns-clause-moves c = refl

pub returns-clause-local : goal.returns-clause-local
unfolding digits
returns-clause-local c = refl

pub returns-clause-sums : goal.returns-clause-sums
unfolding digits
returns-clause-sums c = refl
