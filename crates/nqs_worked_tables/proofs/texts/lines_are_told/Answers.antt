use Rattle.std.proofs.Common.{refl}
use Rattle.std.specs.Fmt.{digits}
use Rattle.nqs_worked_tables.proofs.texts.lines_are_told.Goals as goal

pub returns-clause-requests : goal.returns-clause-requests
unfolding digits
returns-clause-requests c = refl

pub returns-clause-hosts : goal.returns-clause-hosts
unfolding digits
returns-clause-hosts c = refl

pub returns-clause-replies : goal.returns-clause-replies
unfolding digits
returns-clause-replies c = refl

pub returns-clause-packets : goal.returns-clause-packets
unfolding digits
returns-clause-packets c = refl

pub returns-clause-table : goal.returns-clause-table
unfolding digits
returns-clause-table c = refl

pub returns-clause-words : goal.returns-clause-words
unfolding digits
returns-clause-words c = refl
