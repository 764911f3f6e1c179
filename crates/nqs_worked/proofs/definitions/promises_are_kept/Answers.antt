use Rattle.std.proofs.Common.{refl}
use Rattle.std.specs.Fmt.{digits}
use Rattle.nqs_worked.proofs.definitions.promises_are_kept.Goals as goal

pub returns-clause-left : goal.returns-clause-left
unfolding digits
returns-clause-left c = refl

pub returns-clause-old : goal.returns-clause-old
unfolding digits
returns-clause-old c = refl

pub returns-clause-arrival : goal.returns-clause-arrival
unfolding digits
returns-clause-arrival c = refl

pub returns-clause-closed : goal.returns-clause-closed
unfolding digits
returns-clause-closed c = refl

pub returns-clause-behind : goal.returns-clause-behind
unfolding digits
returns-clause-behind c = refl

pub returns-clause-taken : goal.returns-clause-taken
unfolding digits
returns-clause-taken c = refl

pub returns-clause-once : goal.returns-clause-once
unfolding digits
returns-clause-once c = refl
