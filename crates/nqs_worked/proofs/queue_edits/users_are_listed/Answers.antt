use Rattle.std.proofs.Common.{refl}
use Rattle.std.specs.Fmt.{digits}
use Rattle.nqs_worked.proofs.queue_edits.users_are_listed.Goals as goal

pub returns : goal.returns
unfolding digits
returns c = refl
