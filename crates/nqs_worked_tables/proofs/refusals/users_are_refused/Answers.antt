use Rattle.std.proofs.Common.{refl}
use Rattle.std.specs.Fmt.{digits}
use Rattle.nqs_worked_tables.proofs.refusals.users_are_refused.Goals as goal

pub returns-clause-add : goal.returns-clause-add
unfolding digits
returns-clause-add c = refl

pub returns-clause-unrestricted : goal.returns-clause-unrestricted
unfolding digits
returns-clause-unrestricted c = refl

pub returns-clause-remove : goal.returns-clause-remove
unfolding digits
returns-clause-remove c = refl

pub returns-clause-managers : goal.returns-clause-managers
unfolding digits
returns-clause-managers c = refl

pub returns-clause-operators : goal.returns-clause-operators
unfolding digits
returns-clause-operators c = refl

pub returns-clause-root : goal.returns-clause-root
unfolding digits
returns-clause-root c = refl

pub returns-clause-no_root : goal.returns-clause-no_root
unfolding digits
returns-clause-no_root c = refl
