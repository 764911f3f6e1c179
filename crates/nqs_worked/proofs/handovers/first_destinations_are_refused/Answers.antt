use Rattle.std.proofs.Common.{refl}
use Rattle.std.specs.Fmt.{digits}
use Rattle.nqs_worked.proofs.handovers.first_destinations_are_refused.Goals as goal

pub returns : goal.returns
unfolding digits
returns c = refl
