use Rattle.std.proofs.Common.{refl}
use Rattle.std.specs.Fmt.{digits}
use Rattle.nqs_worked_tables.proofs.steps.commands_are_answered.Goals as goal

pub returns-clause-unread : goal.returns-clause-unread
unfolding digits
returns-clause-unread c = refl

pub returns-clause-ranks : goal.returns-clause-ranks
unfolding digits
returns-clause-ranks c = refl

pub returns-clause-refused : goal.returns-clause-refused
unfolding digits
returns-clause-refused c = refl

pub returns-clause-edit : goal.returns-clause-edit
unfolding digits
returns-clause-edit c = refl

pub returns-clause-shutdown : goal.returns-clause-shutdown
unfolding digits
returns-clause-shutdown c = refl

pub returns-clause-tick : goal.returns-clause-tick
unfolding digits
returns-clause-tick c = refl

pub returns-clause-stat : goal.returns-clause-stat
unfolding digits
returns-clause-stat c = refl

pub returns-clause-shows : goal.returns-clause-shows
unfolding digits
returns-clause-shows c = refl
