use Rattle.std.proofs.Common.{refl}
use Rattle.std.specs.Fmt.{digits}
use Rattle.nqs_worked_tables.proofs.order_bounds.sites_have_bounds.Goals as goal

pub returns-clause-sizes : goal.returns-clause-sizes
unfolding digits
returns-clause-sizes c = refl

pub returns-clause-places : goal.returns-clause-places
unfolding digits
returns-clause-places c = refl
