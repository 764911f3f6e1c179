use Rattle.std.proofs.Common.{refl}
use Rattle.std.specs.Fmt.{digits}
use Rattle.nqs_worked.proofs.one_host.complex_limits_its_queues.Goals as goal

pub returns : goal.returns
unfolding digits
returns c = refl
