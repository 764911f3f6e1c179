use Rattle.std.proofs.Common.{refl}
use Rattle.std.specs.Fmt.{digits}
use Rattle.nqs_base.specs.Path.{has_parent}
use Rattle.nqs_worked_tables.proofs.order_bounds.rows_have_bounds.Goals as goal

pub returns-clause-right : goal.returns-clause-right
unfolding digits has_parent
returns-clause-right c = refl

pub returns-clause-wrong : goal.returns-clause-wrong
unfolding digits has_parent
returns-clause-wrong c = refl

pub returns-clause-first_promise : goal.returns-clause-first_promise
unfolding digits has_parent
returns-clause-first_promise c = refl

pub returns-clause-promises : goal.returns-clause-promises
unfolding digits has_parent
returns-clause-promises c = refl
