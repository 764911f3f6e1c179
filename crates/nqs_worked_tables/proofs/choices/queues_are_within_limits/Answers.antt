use Rattle.std.proofs.Common.{refl}
use Rattle.std.specs.Fmt.{digits}
use Rattle.nqs_worked_tables.proofs.choices.queues_are_within_limits.Goals as goal

pub returns-clause-run : goal.returns-clause-run
unfolding digits
returns-clause-run c = refl

pub returns-clause-other_kinds : goal.returns-clause-other_kinds
unfolding digits
returns-clause-other_kinds c = refl

pub returns-clause-complexes : goal.returns-clause-complexes
unfolding digits
returns-clause-complexes c = refl

pub returns-clause-others : goal.returns-clause-others
unfolding digits
returns-clause-others c = refl

pub returns-clause-global : goal.returns-clause-global
unfolding digits
returns-clause-global c = refl

pub returns-clause-both : goal.returns-clause-both
unfolding digits
returns-clause-both c = refl
