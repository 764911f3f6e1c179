use Rattle.std.proofs.Common.{refl}
use Rattle.std.specs.Fmt.{digits}
use Rattle.nqs_worked_tables.proofs.steps.starts_are_ended.Goals as goal

pub returns-clause-here : goal.returns-clause-here
unfolding digits
returns-clause-here c = refl

pub returns-clause-error_here : goal.returns-clause-error_here
unfolding digits
returns-clause-error_here c = refl

pub returns-clause-joined : goal.returns-clause-joined
unfolding digits
returns-clause-joined c = refl

pub returns-clause-others : goal.returns-clause-others
unfolding digits
returns-clause-others c = refl

pub returns-clause-starts : goal.returns-clause-starts
unfolding digits
returns-clause-starts c = refl

pub returns-clause-port : goal.returns-clause-port
unfolding digits
returns-clause-port c = refl

pub returns-clause-waits : goal.returns-clause-waits
unfolding digits
returns-clause-waits c = refl

pub returns-clause-goes : goal.returns-clause-goes
unfolding digits
returns-clause-goes c = refl

pub returns-clause-none : goal.returns-clause-none
unfolding digits
returns-clause-none c = refl

pub returns-clause-unlaunched : goal.returns-clause-unlaunched
unfolding digits
returns-clause-unlaunched c = refl

pub returns-clause-unlaunched_others : goal.returns-clause-unlaunched_others
unfolding digits
returns-clause-unlaunched_others c = refl
