use Rattle.std.proofs.Common.{refl}
use Rattle.std.specs.Fmt.{digits}
use Rattle.nqs_worked_tables.proofs.choices.starts_are_made.Goals as goal

pub returns-clause-launch : goal.returns-clause-launch
unfolding digits
returns-clause-launch c = refl

pub returns-clause-limits : goal.returns-clause-limits
unfolding digits
returns-clause-limits c = refl

pub returns-clause-print : goal.returns-clause-print
unfolding digits
returns-clause-print c = refl

pub returns-clause-far : goal.returns-clause-far
unfolding digits
returns-clause-far c = refl

pub returns-clause-hand : goal.returns-clause-hand
unfolding digits
returns-clause-hand c = refl

pub returns-clause-here : goal.returns-clause-here
unfolding digits
returns-clause-here c = refl

pub returns-clause-nothing : goal.returns-clause-nothing
unfolding digits
returns-clause-nothing c = refl

pub returns-clause-no_row : goal.returns-clause-no_row
unfolding digits
returns-clause-no_row c = refl

pub returns-clause-measure : goal.returns-clause-measure
unfolding digits
returns-clause-measure c = refl
