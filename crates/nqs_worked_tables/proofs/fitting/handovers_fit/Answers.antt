use Rattle.std.proofs.Common.{refl}
use Rattle.std.specs.Fmt.{digits}
use Rattle.nqs_worked_tables.proofs.fitting.handovers_fit.Goals as goal

pub returns-clause-opened : goal.returns-clause-opened
unfolding digits
returns-clause-opened c = refl

pub returns-clause-last : goal.returns-clause-last
unfolding digits
returns-clause-last c = refl

pub returns-clause-window : goal.returns-clause-window
unfolding digits
returns-clause-window c = refl

pub returns-clause-committed : goal.returns-clause-committed
unfolding digits
returns-clause-committed c = refl

pub returns-clause-refused : goal.returns-clause-refused
unfolding digits
returns-clause-refused c = refl

pub returns-clause-done : goal.returns-clause-done
unfolding digits
returns-clause-done c = refl

pub returns-clause-silent : goal.returns-clause-silent
unfolding digits
returns-clause-silent c = refl
