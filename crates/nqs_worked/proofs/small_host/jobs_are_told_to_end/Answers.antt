use Rattle.std.proofs.Common.{refl}
use Rattle.std.specs.Fmt.{digits}
use Rattle.nqs_worked.proofs.small_host.jobs_are_told_to_end.Goals as goal

pub returns : goal.returns
unfolding digits
returns c = refl
