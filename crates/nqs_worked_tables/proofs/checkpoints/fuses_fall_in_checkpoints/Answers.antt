use Rattle.std.proofs.Common.{refl}
use Rattle.std.specs.Fmt.{digits}
use Rattle.nqs_worked_tables.proofs.checkpoints.fuses_fall_in_checkpoints.Goals as goal

pub returns-clause-second : goal.returns-clause-second
unfolding digits
returns-clause-second c = refl

pub returns-clause-first : goal.returns-clause-first
unfolding digits
returns-clause-first c = refl

pub returns-clause-spared : goal.returns-clause-spared
unfolding digits
returns-clause-spared c = refl

pub returns-clause-root : goal.returns-clause-root
unfolding digits
returns-clause-root c = refl

pub returns-clause-spool : goal.returns-clause-spool
unfolding digits
returns-clause-spool c = refl

pub returns-clause-bytes : goal.returns-clause-bytes
unfolding digits
returns-clause-bytes c = refl

pub returns-clause-not_yet : goal.returns-clause-not_yet
unfolding digits
returns-clause-not_yet c = refl

pub returns-clause-not_yet_back : goal.returns-clause-not_yet_back
unfolding digits
returns-clause-not_yet_back c = refl

pub returns-clause-later : goal.returns-clause-later
unfolding digits
returns-clause-later c = refl
