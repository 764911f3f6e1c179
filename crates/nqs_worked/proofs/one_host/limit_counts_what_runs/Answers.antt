use Rattle.std.proofs.Common.{refl}
use Rattle.std.specs.Fmt.{digits}
use Rattle.nqs_worked.proofs.one_host.limit_counts_what_runs.Goals as goal

pub returns : goal.returns
unfolding digits
returns c = refl
