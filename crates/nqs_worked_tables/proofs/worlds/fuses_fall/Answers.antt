use Rattle.std.proofs.Common.{refl}
use Rattle.std.specs.Fmt.{digits}
use Rattle.nqs_worked_tables.proofs.worlds.fuses_fall.Goals as goal

pub returns-clause-old : goal.returns-clause-old
unfolding digits
returns-clause-old c = refl

pub returns-clause-new : goal.returns-clause-new
unfolding digits
returns-clause-new c = refl

pub returns-clause-mixed : goal.returns-clause-mixed
unfolding digits
returns-clause-mixed c = refl

pub returns-clause-spool : goal.returns-clause-spool
unfolding digits
returns-clause-spool c = refl

pub returns-clause-both : goal.returns-clause-both
unfolding digits
returns-clause-both c = refl

pub returns-clause-none : goal.returns-clause-none
unfolding digits
returns-clause-none c = refl

pub returns-clause-falls : goal.returns-clause-falls
unfolding digits
returns-clause-falls c = refl

pub returns-clause-burnt : goal.returns-clause-burnt
unfolding digits
returns-clause-burnt c = refl

pub returns-clause-disks : goal.returns-clause-disks
unfolding digits
returns-clause-disks c = refl

pub returns-clause-zero : goal.returns-clause-zero
unfolding digits
returns-clause-zero c = refl

pub returns-clause-one : goal.returns-clause-one
unfolding digits
returns-clause-one c = refl

pub returns-clause-laid : goal.returns-clause-laid
unfolding digits
returns-clause-laid c = refl

pub returns-clause-tears : goal.returns-clause-tears
unfolding digits
returns-clause-tears c = refl
