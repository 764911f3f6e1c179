use Rattle.std.proofs.Common.{refl}
use Rattle.std.specs.Fmt.{digits}
use Rattle.nqs_worked.proofs.checkpoints.boot_stops_twice.Goals as goal

pub returns-clause-told : goal.returns-clause-told
unfolding digits
returns-clause-told c = refl

pub returns-clause-same : goal.returns-clause-same
unfolding digits
returns-clause-same c = refl

pub returns-clause-old : goal.returns-clause-old
unfolding digits
returns-clause-old c = refl

pub returns-clause-new : goal.returns-clause-new
unfolding digits
returns-clause-new c = refl

pub returns-clause-seven : goal.returns-clause-seven
unfolding digits
returns-clause-seven c = refl
