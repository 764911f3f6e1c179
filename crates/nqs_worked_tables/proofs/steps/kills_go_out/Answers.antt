use Rattle.std.proofs.Common.{refl}
use Rattle.std.specs.Fmt.{digits}
use Rattle.nqs_worked_tables.proofs.steps.kills_go_out.Goals as goal

pub returns-clause-queued : goal.returns-clause-queued
unfolding digits
returns-clause-queued c = refl

pub returns-clause-routing : goal.returns-clause-routing
unfolding digits
returns-clause-routing c = refl

pub returns-clause-running : goal.returns-clause-running
unfolding digits
returns-clause-running c = refl

pub returns-clause-doomed : goal.returns-clause-doomed
unfolding digits
returns-clause-doomed c = refl

pub returns-clause-refused : goal.returns-clause-refused
unfolding digits
returns-clause-refused c = refl

pub returns-clause-abort : goal.returns-clause-abort
unfolding digits
returns-clause-abort c = refl

pub returns-clause-abort_other : goal.returns-clause-abort_other
unfolding digits
returns-clause-abort_other c = refl

pub returns-clause-purge : goal.returns-clause-purge
unfolding digits
returns-clause-purge c = refl
