use Rattle.std.proofs.Common.{refl}
use Rattle.std.specs.Fmt.{digits}
use Rattle.nqs_worked_tables.proofs.made.promises_are_made.Goals as goal

pub returns-clause-promised : goal.returns-clause-promised
unfolding digits
returns-clause-promised c = refl

pub returns-clause-beside : goal.returns-clause-beside
unfolding digits
returns-clause-beside c = refl

pub returns-clause-old : goal.returns-clause-old
unfolding digits
returns-clause-old c = refl

pub returns-clause-accepted : goal.returns-clause-accepted
unfolding digits
returns-clause-accepted c = refl

pub returns-clause-accepted_again : goal.returns-clause-accepted_again
unfolding digits
returns-clause-accepted_again c = refl

pub returns-clause-dropped : goal.returns-clause-dropped
unfolding digits
returns-clause-dropped c = refl
