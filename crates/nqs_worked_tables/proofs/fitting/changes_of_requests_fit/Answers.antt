use Rattle.std.proofs.Common.{refl}
use Rattle.std.specs.Fmt.{digits}
use Rattle.nqs_worked_tables.proofs.fitting.changes_of_requests_fit.Goals as goal

pub returns-clause-deleted : goal.returns-clause-deleted
unfolding digits
returns-clause-deleted c = refl

pub returns-clause-doomed : goal.returns-clause-doomed
unfolding digits
returns-clause-doomed c = refl

pub returns-clause-started : goal.returns-clause-started
unfolding digits
returns-clause-started c = refl

pub returns-clause-printed : goal.returns-clause-printed
unfolding digits
returns-clause-printed c = refl

pub returns-clause-ended : goal.returns-clause-ended
unfolding digits
returns-clause-ended c = refl

pub returns-clause-unlaunched : goal.returns-clause-unlaunched
unfolding digits
returns-clause-unlaunched c = refl

pub returns-clause-opened : goal.returns-clause-opened
unfolding digits
returns-clause-opened c = refl

pub returns-clause-moved : goal.returns-clause-moved
unfolding digits
returns-clause-moved c = refl

pub returns-clause-refused : goal.returns-clause-refused
unfolding digits
returns-clause-refused c = refl

pub returns-clause-far : goal.returns-clause-far
unfolding digits
returns-clause-far c = refl

pub returns-clause-edits : goal.returns-clause-edits
unfolding digits
returns-clause-edits c = refl
