use Rattle.std.proofs.Common.{refl}
use Rattle.std.specs.Fmt.{digits}
use Rattle.nqs_worked_tables.proofs.commands.users_have_ranks.Goals as goal

pub returns : goal.returns
unfolding digits
returns c = refl
