use Rattle.std.proofs.Common.{refl}
use Rattle.std.specs.Fmt.{digits}
use Rattle.nqs_worked_tables.proofs.worlds.calls_are_counted.Goals as goal

pub returns-clause-new : goal.returns-clause-new
unfolding digits
returns-clause-new c = refl

pub returns-clause-refused : goal.returns-clause-refused
unfolding digits
returns-clause-refused c = refl

pub returns-clause-submissions : goal.returns-clause-submissions
unfolding digits
returns-clause-submissions c = refl

pub returns-clause-ends : goal.returns-clause-ends
unfolding digits
returns-clause-ends c = refl

pub returns-clause-no_outputs : goal.returns-clause-no_outputs
unfolding digits
returns-clause-no_outputs c = refl

pub returns-clause-promise : goal.returns-clause-promise
unfolding digits
returns-clause-promise c = refl

pub returns-clause-stops : goal.returns-clause-stops
unfolding digits
returns-clause-stops c = refl

pub returns-clause-parts : goal.returns-clause-parts
unfolding digits
returns-clause-parts c = refl

pub returns-clause-used : goal.returns-clause-used
unfolding digits
returns-clause-used c = refl

pub returns-clause-stopped : goal.returns-clause-stopped
unfolding digits
returns-clause-stopped c = refl
