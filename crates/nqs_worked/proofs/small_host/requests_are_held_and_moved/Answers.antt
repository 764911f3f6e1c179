use Rattle.std.proofs.Common.{refl}
use Rattle.std.specs.Fmt.{digits}
use Rattle.nqs_worked.proofs.small_host.requests_are_held_and_moved.Goals as goal

pub returns : goal.returns
unfolding digits
returns c = refl
