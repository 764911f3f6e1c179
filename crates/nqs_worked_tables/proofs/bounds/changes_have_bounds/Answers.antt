use Rattle.std.proofs.Common.{refl}
use Rattle.std.specs.Fmt.{digits}
use Rattle.nqs_base.specs.Path.{has_parent}
use Rattle.nqs_worked_tables.proofs.bounds.changes_have_bounds.Goals as goal

pub returns-clause-kept : goal.returns-clause-kept
unfolding digits has_parent
returns-clause-kept c = refl

pub returns-clause-lost : goal.returns-clause-lost
unfolding digits has_parent
returns-clause-lost c = refl

pub returns-clause-scripts : goal.returns-clause-scripts
unfolding digits has_parent
returns-clause-scripts c = refl

pub returns-clause-outputs : goal.returns-clause-outputs
unfolding digits has_parent
returns-clause-outputs c = refl

pub returns-clause-others : goal.returns-clause-others
unfolding digits has_parent
returns-clause-others c = refl
