use Rattle.std.proofs.Common.{refl}
use Rattle.std.specs.Fmt.{digits}
use Rattle.nqs_worked.proofs.definitions.refusals_are_told.Goals as goal

pub returns : goal.returns
unfolding digits
returns c = refl
