use Rattle.std.proofs.Common.{refl}
use Rattle.std.specs.Fmt.{digits}
use Rattle.nqs_worked.proofs.definitions.ticks_say_again.Goals as goal

pub returns-clause-early : goal.returns-clause-early
unfolding digits
returns-clause-early c = refl

pub returns-clause-unchanged : goal.returns-clause-unchanged
unfolding digits
returns-clause-unchanged c = refl

pub returns-clause-silent : goal.returns-clause-silent
unfolding digits
returns-clause-silent c = refl

pub returns-clause-command : goal.returns-clause-command
unfolding digits
returns-clause-command c = refl

pub returns-clause-back : goal.returns-clause-back
unfolding digits
returns-clause-back c = refl

pub returns-clause-waits : goal.returns-clause-waits
unfolding digits
returns-clause-waits c = refl
