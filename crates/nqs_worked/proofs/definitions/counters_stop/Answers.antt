use Rattle.std.proofs.Common.{refl}
use Rattle.std.specs.Fmt.{digits}
use Rattle.nqs_worked.proofs.definitions.counters_stop.Goals as goal

pub returns-clause-files : goal.returns-clause-files
unfolding digits
returns-clause-files c = refl

pub returns-clause-stages : goal.returns-clause-stages
unfolding digits
returns-clause-stages c = refl

pub returns-clause-taken : goal.returns-clause-taken
unfolding digits
returns-clause-taken c = refl

pub returns-clause-kept : goal.returns-clause-kept
unfolding digits
returns-clause-kept c = refl

pub returns-clause-got : goal.returns-clause-got
unfolding digits
returns-clause-got c = refl
