use Rattle.std.proofs.Common.{refl}
use Rattle.std.specs.Fmt.{digits}
use Rattle.nqs_worked.proofs.small_host.request_waits_for_its_start.Goals as goal

pub returns : goal.returns
unfolding digits
returns c = refl
