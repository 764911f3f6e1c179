use Rattle.std.proofs.Common.{refl}
use Rattle.std.specs.Fmt.{digits}
use Rattle.nqs_worked.proofs.one_host.request_is_lost.Goals as goal

pub returns : goal.returns
unfolding digits
returns c = refl
