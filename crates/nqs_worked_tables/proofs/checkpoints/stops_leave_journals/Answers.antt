use Rattle.std.proofs.Common.{refl}
use Rattle.std.specs.Fmt.{digits}
use Rattle.nqs_worked_tables.proofs.checkpoints.stops_leave_journals.Goals as goal

pub returns-clause-journal : goal.returns-clause-journal
unfolding digits
returns-clause-journal c = refl

pub returns-clause-journal_back : goal.returns-clause-journal_back
unfolding digits
returns-clause-journal_back c = refl

pub returns-clause-empty : goal.returns-clause-empty
unfolding digits
returns-clause-empty c = refl

pub returns-clause-one : goal.returns-clause-one
unfolding digits
returns-clause-one c = refl

pub returns-clause-zero : goal.returns-clause-zero
unfolding digits
returns-clause-zero c = refl

pub returns-clause-seven : goal.returns-clause-seven
unfolding digits
returns-clause-seven c = refl

pub returns-clause-all_ones : goal.returns-clause-all_ones
unfolding digits
returns-clause-all_ones c = refl

pub returns-clause-spool : goal.returns-clause-spool
unfolding digits
returns-clause-spool c = refl

pub returns-clause-spool_back : goal.returns-clause-spool_back
unfolding digits
returns-clause-spool_back c = refl

pub returns-clause-record : goal.returns-clause-record
unfolding digits
returns-clause-record c = refl

pub returns-clause-gate : goal.returns-clause-gate
unfolding digits
returns-clause-gate c = refl

pub returns-clause-gate_back : goal.returns-clause-gate_back
unfolding digits
returns-clause-gate_back c = refl

pub returns-clause-not_yet : goal.returns-clause-not_yet
unfolding digits
returns-clause-not_yet c = refl

pub returns-clause-first_decides : goal.returns-clause-first_decides
unfolding digits
returns-clause-first_decides c = refl
