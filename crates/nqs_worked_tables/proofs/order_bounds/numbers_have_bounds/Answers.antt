use Rattle.std.proofs.Common.{refl}
use Rattle.std.specs.Fmt.{digits}
use Rattle.nqs_base.specs.Path.{has_parent}
use Rattle.nqs_worked_tables.proofs.order_bounds.numbers_have_bounds.Goals as goal

pub returns-clause-hands : goal.returns-clause-hands
unfolding digits has_parent
returns-clause-hands c = refl

pub returns-clause-few : goal.returns-clause-few
unfolding digits has_parent
returns-clause-few c = refl

pub returns-clause-peers : goal.returns-clause-peers
unfolding digits has_parent
returns-clause-peers c = refl

pub returns-clause-closed : goal.returns-clause-closed
unfolding digits has_parent
returns-clause-closed c = refl

pub returns-clause-stages : goal.returns-clause-stages
unfolding digits has_parent
returns-clause-stages c = refl

pub returns-clause-files : goal.returns-clause-files
unfolding digits has_parent
returns-clause-files c = refl

pub returns-clause-parts : goal.returns-clause-parts
unfolding digits has_parent
returns-clause-parts c = refl

pub returns-clause-long_parts : goal.returns-clause-long_parts
unfolding digits has_parent
returns-clause-long_parts c = refl

pub returns-clause-long_outputs : goal.returns-clause-long_outputs
unfolding digits has_parent
returns-clause-long_outputs c = refl

pub returns-clause-long_scripts : goal.returns-clause-long_scripts
unfolding digits has_parent
returns-clause-long_scripts c = refl
