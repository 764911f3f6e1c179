use Rattle.std.proofs.Common.{refl}
use Rattle.std.specs.Fmt.{digits}
use Rattle.nqs_worked_tables.proofs.refusals.edits_of_requests_are_refused.Goals as goal

pub returns-clause-hold : goal.returns-clause-hold
unfolding digits
returns-clause-hold c = refl

pub returns-clause-hold_again : goal.returns-clause-hold_again
unfolding digits
returns-clause-hold_again c = refl

pub returns-clause-release : goal.returns-clause-release
unfolding digits
returns-clause-release c = refl

pub returns-clause-modify : goal.returns-clause-modify
unfolding digits
returns-clause-modify c = refl

pub returns-clause-move_nowhere : goal.returns-clause-move_nowhere
unfolding digits
returns-clause-move_nowhere c = refl

pub returns-clause-move_disabled : goal.returns-clause-move_disabled
unfolding digits
returns-clause-move_disabled c = refl

pub returns-clause-moves : goal.returns-clause-moves
unfolding digits
returns-clause-moves c = refl

pub returns-clause-move_in : goal.returns-clause-move_in
unfolding digits
returns-clause-move_in c = refl
