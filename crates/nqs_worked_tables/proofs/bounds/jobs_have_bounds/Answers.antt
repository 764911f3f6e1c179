use Rattle.std.proofs.Common.{refl}
use Rattle.std.specs.Fmt.{digits}
use Rattle.nqs_base.specs.Path.{has_parent}
use Rattle.nqs_worked_tables.proofs.bounds.jobs_have_bounds.Goals as goal

pub returns-clause-kept : goal.returns-clause-kept
unfolding digits has_parent
returns-clause-kept c = refl

pub returns-clause-asked : goal.returns-clause-asked
unfolding digits has_parent
returns-clause-asked c = refl

pub returns-clause-name_bytes : goal.returns-clause-name_bytes
unfolding digits has_parent
returns-clause-name_bytes c = refl

pub returns-clause-names : goal.returns-clause-names
unfolding digits has_parent
returns-clause-names c = refl

pub returns-clause-numbers : goal.returns-clause-numbers
unfolding digits has_parent
returns-clause-numbers c = refl

pub returns-clause-carried : goal.returns-clause-carried
unfolding digits has_parent
returns-clause-carried c = refl
