use Rattle.std.proofs.Common.{refl}
use Rattle.std.specs.Fmt.{digits}
use Rattle.nqs_worked_tables.proofs.refusals.deletions_are_refused.Goals as goal

pub returns-clause-owner : goal.returns-clause-owner
unfolding digits
returns-clause-owner c = refl

pub returns-clause-stranger : goal.returns-clause-stranger
unfolding digits
returns-clause-stranger c = refl

pub returns-clause-ranked : goal.returns-clause-ranked
unfolding digits
returns-clause-ranked c = refl

pub returns-clause-others : goal.returns-clause-others
unfolding digits
returns-clause-others c = refl
