use Rattle.std.proofs.Common.{refl}
use Rattle.std.specs.Fmt.{digits}
use Rattle.nqs_worked_tables.proofs.refusals.destinations_are_refused.Goals as goal

pub returns-clause-add : goal.returns-clause-add
unfolding digits
returns-clause-add c = refl

pub returns-clause-kind : goal.returns-clause-kind
unfolding digits
returns-clause-kind c = refl

pub returns-clause-many : goal.returns-clause-many
unfolding digits
returns-clause-many c = refl

pub returns-clause-remove : goal.returns-clause-remove
unfolding digits
returns-clause-remove c = refl

pub returns-clause-first : goal.returns-clause-first
unfolding digits
returns-clause-first c = refl

pub returns-clause-first_kind : goal.returns-clause-first_kind
unfolding digits
returns-clause-first_kind c = refl

pub returns-clause-remove_kind : goal.returns-clause-remove_kind
unfolding digits
returns-clause-remove_kind c = refl
