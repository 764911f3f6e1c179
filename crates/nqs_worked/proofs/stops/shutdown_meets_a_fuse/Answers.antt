use Rattle.std.proofs.Common.{refl}
use Rattle.std.specs.Fmt.{digits}
use Rattle.nqs_worked.proofs.stops.shutdown_meets_a_fuse.Goals as goal

pub returns : goal.returns
unfolding digits
returns c = refl
