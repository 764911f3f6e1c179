use Rattle.std.proofs.Common.{refl}
use Rattle.std.specs.Fmt.{digits}
use Rattle.nqs_worked.proofs.stops.host_is_shut_down.Goals as goal

pub returns : goal.returns
unfolding digits
returns c = refl
