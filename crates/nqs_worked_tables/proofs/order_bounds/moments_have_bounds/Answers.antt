use Rattle.std.proofs.Common.{refl}
use Rattle.std.specs.Fmt.{digits}
use Rattle.nqs_worked_tables.proofs.order_bounds.moments_have_bounds.Goals as goal

pub returns-clause-doomed : goal.returns-clause-doomed
unfolding digits
returns-clause-doomed c = refl

pub returns-clause-not_doomed : goal.returns-clause-not_doomed
unfolding digits
returns-clause-not_doomed c = refl

pub returns-clause-held : goal.returns-clause-held
unfolding digits
returns-clause-held c = refl

pub returns-clause-not_held : goal.returns-clause-not_held
unfolding digits
returns-clause-not_held c = refl

pub returns-clause-offered : goal.returns-clause-offered
unfolding digits
returns-clause-offered c = refl

pub returns-clause-no_hand : goal.returns-clause-no_hand
unfolding digits
returns-clause-no_hand c = refl

pub returns-clause-promises : goal.returns-clause-promises
unfolding digits
returns-clause-promises c = refl

pub returns-clause-given : goal.returns-clause-given
unfolding digits
returns-clause-given c = refl
