use Rattle.std.proofs.Common.{refl}
use Rattle.std.specs.Fmt.{digits}
use Rattle.nqs_worked_tables.proofs.two_queues.one_queue_is_purged.Goals as goal

pub returns : goal.returns
unfolding digits
returns c = refl
