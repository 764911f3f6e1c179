use Rattle.std.proofs.Common.{refl}
use Rattle.std.specs.Fmt.{digits}
use Rattle.nqs_worked_tables.proofs.texts.transcript_is_bytes.Goals as goal

pub returns : goal.returns
unfolding digits
returns c = refl
