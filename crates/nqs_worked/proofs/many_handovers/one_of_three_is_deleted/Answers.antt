use Rattle.std.proofs.Common.{refl}
use Rattle.std.specs.Fmt.{digits}
use Rattle.nqs_worked.proofs.many_handovers.one_of_three_is_deleted.Goals as goal

pub returns : goal.returns
unfolding digits
returns c = refl
