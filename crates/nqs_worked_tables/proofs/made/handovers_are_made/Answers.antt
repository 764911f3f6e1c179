use Rattle.std.proofs.Common.{refl}
use Rattle.std.specs.Fmt.{digits}
use Rattle.nqs_worked_tables.proofs.made.handovers_are_made.Goals as goal

pub returns-clause-opened : goal.returns-clause-opened
unfolding digits
returns-clause-opened c = refl

pub returns-clause-committed : goal.returns-clause-committed
unfolding digits
returns-clause-committed c = refl

pub returns-clause-refused : goal.returns-clause-refused
unfolding digits
returns-clause-refused c = refl

pub returns-clause-silent : goal.returns-clause-silent
unfolding digits
returns-clause-silent c = refl

pub returns-clause-one_silent : goal.returns-clause-one_silent
unfolding digits
returns-clause-one_silent c = refl

pub returns-clause-done : goal.returns-clause-done
unfolding digits
returns-clause-done c = refl
