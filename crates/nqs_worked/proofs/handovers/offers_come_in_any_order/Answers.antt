use Rattle.std.proofs.Common.{refl}
use Rattle.std.specs.Fmt.{digits}
use Rattle.nqs_worked.proofs.handovers.offers_come_in_any_order.Goals as goal

pub returns-clause-told : goal.returns-clause-told
unfolding digits
returns-clause-told c = refl

pub returns-clause-changed : goal.returns-clause-changed
unfolding digits
returns-clause-changed c = refl

pub returns-clause-passed : goal.returns-clause-passed
unfolding digits
returns-clause-passed c = refl

pub returns-clause-commits : goal.returns-clause-commits
unfolding digits
returns-clause-commits c = refl
