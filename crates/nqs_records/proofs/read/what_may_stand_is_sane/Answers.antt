use Rattle.nqs_records.proofs.SaneLaws.{what_may_stand_is_sane}
use Rattle.nqs_records.proofs.read.what_may_stand_is_sane.Goals as goal

pub returns : goal.returns
returns c = what_may_stand_is_sane
