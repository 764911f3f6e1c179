use Rattle.std.proofs.Common.{refl}
use Rattle.std.specs.Fmt.{digits}
use Rattle.nqs_worked_tables.proofs.made.queues_are_changed.Goals as goal

pub returns-clause-enable : goal.returns-clause-enable
unfolding digits
returns-clause-enable c = refl

pub returns-clause-stop : goal.returns-clause-stop
unfolding digits
returns-clause-stop c = refl

pub returns-clause-numbers : goal.returns-clause-numbers
unfolding digits
returns-clause-numbers c = refl

pub returns-clause-other_limit : goal.returns-clause-other_limit
unfolding digits
returns-clause-other_limit c = refl

pub returns-clause-add_dest : goal.returns-clause-add_dest
unfolding digits
returns-clause-add_dest c = refl

pub returns-clause-remove_dest : goal.returns-clause-remove_dest
unfolding digits
returns-clause-remove_dest c = refl

pub returns-clause-first_dest : goal.returns-clause-first_dest
unfolding digits
returns-clause-first_dest c = refl

pub returns-clause-parameters : goal.returns-clause-parameters
unfolding digits
returns-clause-parameters c = refl
