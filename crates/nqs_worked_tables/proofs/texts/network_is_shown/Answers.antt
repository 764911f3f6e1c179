use Rattle.std.proofs.Common.{refl}
use Rattle.std.specs.Fmt.{digits}
use Rattle.nqs_worked_tables.proofs.texts.network_is_shown.Goals as goal

pub returns-clause-offered : goal.returns-clause-offered
unfolding digits
returns-clause-offered c = refl

pub returns-clause-committed : goal.returns-clause-committed
unfolding digits
returns-clause-committed c = refl

pub returns-clause-entry : goal.returns-clause-entry
unfolding digits
returns-clause-entry c = refl

pub returns-clause-entries : goal.returns-clause-entries
unfolding digits
returns-clause-entries c = refl

pub returns-clause-nowhere : goal.returns-clause-nowhere
unfolding digits
returns-clause-nowhere c = refl

pub returns-clause-once : goal.returns-clause-once
unfolding digits
returns-clause-once c = refl

pub returns-clause-given : goal.returns-clause-given
unfolding digits
returns-clause-given c = refl
