use Rattle.std.proofs.Common.{refl}
use Rattle.std.specs.Fmt.{digits}
use Rattle.nqs_worked_tables.proofs.made.rows_are_edited.Goals as goal

pub returns-clause-purge : goal.returns-clause-purge
unfolding digits
returns-clause-purge c = refl

pub returns-clause-purge_one : goal.returns-clause-purge_one
unfolding digits
returns-clause-purge_one c = refl

pub returns-clause-abort : goal.returns-clause-abort
unfolding digits
returns-clause-abort c = refl

pub returns-clause-hold : goal.returns-clause-hold
unfolding digits
returns-clause-hold c = refl

pub returns-clause-release : goal.returns-clause-release
unfolding digits
returns-clause-release c = refl

pub returns-clause-release_all : goal.returns-clause-release_all
unfolding digits
returns-clause-release_all c = refl

pub returns-clause-moves : goal.returns-clause-moves
unfolding digits
returns-clause-moves c = refl

pub returns-clause-modify : goal.returns-clause-modify
unfolding digits
returns-clause-modify c = refl
