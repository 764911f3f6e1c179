use Rattle.std.proofs.Common.{refl}
use Rattle.std.specs.Fmt.{digits}
use Rattle.nqs_worked_tables.proofs.choices.destinations_are_tried.Goals as goal

pub returns-clause-free : goal.returns-clause-free
unfolding digits
returns-clause-free c = refl

pub returns-clause-taken : goal.returns-clause-taken
unfolding digits
returns-clause-taken c = refl

pub returns-clause-window : goal.returns-clause-window
unfolding digits
returns-clause-window c = refl

pub returns-clause-refused : goal.returns-clause-refused
unfolding digits
returns-clause-refused c = refl

pub returns-clause-own_host : goal.returns-clause-own_host
unfolding digits
returns-clause-own_host c = refl

pub returns-clause-picks : goal.returns-clause-picks
unfolding digits
returns-clause-picks c = refl
