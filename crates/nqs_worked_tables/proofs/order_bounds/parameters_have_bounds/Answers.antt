use Rattle.std.proofs.Common.{refl}
use Rattle.std.specs.Fmt.{digits}
use Rattle.nqs_worked_tables.proofs.order_bounds.parameters_have_bounds.Goals as goal

pub returns-clause-global : goal.returns-clause-global
unfolding digits
returns-clause-global c = refl

pub returns-clause-patience : goal.returns-clause-patience
unfolding digits
returns-clause-patience c = refl

pub returns-clause-retry : goal.returns-clause-retry
unfolding digits
returns-clause-retry c = refl

pub returns-clause-sequence : goal.returns-clause-sequence
unfolding digits
returns-clause-sequence c = refl

pub returns-clause-arrivals : goal.returns-clause-arrivals
unfolding digits
returns-clause-arrivals c = refl

pub returns-clause-files : goal.returns-clause-files
unfolding digits
returns-clause-files c = refl

pub returns-clause-default : goal.returns-clause-default
unfolding digits
returns-clause-default c = refl
