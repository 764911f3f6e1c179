use Rattle.std.proofs.Common.{refl}
use Rattle.std.specs.Fmt.{digits}
use Rattle.nqs_worked_tables.proofs.checkpoints.changes_turn_over.Goals as goal

pub returns-clause-left : goal.returns-clause-left
unfolding digits
returns-clause-left c = refl

pub returns-clause-not_yet : goal.returns-clause-not_yet
unfolding digits
returns-clause-not_yet c = refl

pub returns-clause-calls : goal.returns-clause-calls
unfolding digits
returns-clause-calls c = refl

pub returns-clause-calls_back : goal.returns-clause-calls_back
unfolding digits
returns-clause-calls_back c = refl

pub returns-clause-stopped_calls : goal.returns-clause-stopped_calls
unfolding digits
returns-clause-stopped_calls c = refl

pub returns-clause-used : goal.returns-clause-used
unfolding digits
returns-clause-used c = refl

pub returns-clause-used_back : goal.returns-clause-used_back
unfolding digits
returns-clause-used_back c = refl

pub returns-clause-carried_over : goal.returns-clause-carried_over
unfolding digits
returns-clause-carried_over c = refl

pub returns-clause-disks : goal.returns-clause-disks
unfolding digits
returns-clause-disks c = refl

pub returns-clause-called : goal.returns-clause-called
unfolding digits
returns-clause-called c = refl

pub returns-clause-kept_by_a_stop : goal.returns-clause-kept_by_a_stop
unfolding digits
returns-clause-kept_by_a_stop c = refl
