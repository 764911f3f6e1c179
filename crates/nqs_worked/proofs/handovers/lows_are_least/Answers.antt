use Rattle.std.proofs.Common.{refl}
use Rattle.std.specs.Fmt.{digits}
use Rattle.nqs_worked.proofs.handovers.lows_are_least.Goals as goal

pub returns : goal.returns
unfolding digits
returns c = refl
