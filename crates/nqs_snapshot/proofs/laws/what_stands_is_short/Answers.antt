use Rattle.nqs_snapshot.proofs.Standing.{stands_short, old_stands}
use Rattle.nqs_snapshot.proofs.laws.what_stands_is_short.Goals as goal

pub returns-clause-short : goal.returns-clause-short
returns-clause-short c = stands_short

pub returns-clause-old : goal.returns-clause-old
returns-clause-old c = old_stands
