use Rattle.std.proofs.Common.{refl}
use Rattle.std.specs.Fmt.{digits}
use Rattle.nqs_base.specs.Path.{has_parent}
use Rattle.nqs_worked.proofs.definitions.states_are_in_order.Goals as goal

pub returns-clause-one : goal.returns-clause-one
unfolding digits has_parent
returns-clause-one c = refl

pub returns-clause-two : goal.returns-clause-two
unfolding digits has_parent
returns-clause-two c = refl

pub returns-clause-many : goal.returns-clause-many
unfolding digits has_parent
returns-clause-many c = refl

pub returns-clause-sites : goal.returns-clause-sites
unfolding digits has_parent
returns-clause-sites c = refl

pub returns-clause-right : goal.returns-clause-right
unfolding digits has_parent
returns-clause-right c = refl

pub returns-clause-wrong : goal.returns-clause-wrong
unfolding digits has_parent
returns-clause-wrong c = refl
