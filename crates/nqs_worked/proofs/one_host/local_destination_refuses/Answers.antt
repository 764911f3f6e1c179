use Rattle.std.proofs.Common.{refl}
use Rattle.std.specs.Fmt.{digits}
use Rattle.nqs_worked.proofs.one_host.local_destination_refuses.Goals as goal

pub returns : goal.returns
unfolding digits
returns c = refl
