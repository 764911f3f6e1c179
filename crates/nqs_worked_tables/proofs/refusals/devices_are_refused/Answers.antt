use Rattle.std.proofs.Common.{refl}
use Rattle.std.specs.Fmt.{digits}
use Rattle.nqs_worked_tables.proofs.refusals.devices_are_refused.Goals as goal

pub returns-clause-create : goal.returns-clause-create
unfolding digits
returns-clause-create c = refl

pub returns-clause-idle : goal.returns-clause-idle
unfolding digits
returns-clause-idle c = refl

pub returns-clause-busy : goal.returns-clause-busy
unfolding digits
returns-clause-busy c = refl

pub returns-clause-free : goal.returns-clause-free
unfolding digits
returns-clause-free c = refl

pub returns-clause-add : goal.returns-clause-add
unfolding digits
returns-clause-add c = refl

pub returns-clause-kind : goal.returns-clause-kind
unfolding digits
returns-clause-kind c = refl

pub returns-clause-remove : goal.returns-clause-remove
unfolding digits
returns-clause-remove c = refl
