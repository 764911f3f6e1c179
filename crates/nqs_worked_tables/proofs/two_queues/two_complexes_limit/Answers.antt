use Rattle.std.proofs.Common.{refl}
use Rattle.std.specs.Fmt.{digits}
use Rattle.nqs_worked_tables.proofs.two_queues.two_complexes_limit.Goals as goal

pub returns : goal.returns
unfolding digits
returns c = refl
