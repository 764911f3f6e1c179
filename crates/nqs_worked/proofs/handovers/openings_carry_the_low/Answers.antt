use Rattle.std.proofs.Common.{refl}
use Rattle.std.specs.Fmt.{digits}
use Rattle.nqs_worked.proofs.handovers.openings_carry_the_low.Goals as goal

pub returns-clause-alone : goal.returns-clause-alone
unfolding digits
returns-clause-alone c = refl

pub returns-clause-others : goal.returns-clause-others
unfolding digits
returns-clause-others c = refl
