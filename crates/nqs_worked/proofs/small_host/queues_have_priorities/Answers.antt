use Rattle.std.proofs.Common.{refl}
use Rattle.std.specs.Fmt.{digits}
use Rattle.nqs_worked.proofs.small_host.queues_have_priorities.Goals as goal

pub returns : goal.returns
unfolding digits
returns c = refl
