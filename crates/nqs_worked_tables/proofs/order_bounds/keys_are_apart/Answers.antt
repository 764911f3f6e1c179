use Rattle.std.proofs.Common.{refl}
use Rattle.std.specs.Fmt.{digits}
use Rattle.nqs_worked_tables.proofs.order_bounds.keys_are_apart.Goals as goal

pub returns-clause-apart : goal.returns-clause-apart
unfolding digits
returns-clause-apart c = refl

pub returns-clause-twice : goal.returns-clause-twice
unfolding digits
returns-clause-twice c = refl

pub returns-clause-arrivals : goal.returns-clause-arrivals
unfolding digits
returns-clause-arrivals c = refl

pub returns-clause-promises : goal.returns-clause-promises
unfolding digits
returns-clause-promises c = refl

pub returns-clause-offers : goal.returns-clause-offers
unfolding digits
returns-clause-offers c = refl
