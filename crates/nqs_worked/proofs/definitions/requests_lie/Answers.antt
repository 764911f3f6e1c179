use Rattle.std.proofs.Common.{refl}
use Rattle.std.specs.Fmt.{digits}
use Rattle.nqs_worked.proofs.definitions.requests_lie.Goals as goal

pub returns-clause-table : goal.returns-clause-table
unfolding digits
returns-clause-table c = refl

pub returns-clause-nowhere : goal.returns-clause-nowhere
unfolding digits
returns-clause-nowhere c = refl

pub returns-clause-arriving : goal.returns-clause-arriving
unfolding digits
returns-clause-arriving c = refl

pub returns-clause-twice : goal.returns-clause-twice
unfolding digits
returns-clause-twice c = refl

pub returns-clause-numbers : goal.returns-clause-numbers
unfolding digits
returns-clause-numbers c = refl
