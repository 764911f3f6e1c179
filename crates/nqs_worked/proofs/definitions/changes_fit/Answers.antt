use Rattle.std.proofs.Common.{refl}
use Rattle.std.specs.Fmt.{digits}
use Rattle.nqs_worked.proofs.definitions.changes_fit.Goals as goal

pub returns-clause-fresh : goal.returns-clause-fresh
unfolding digits
returns-clause-fresh c = refl

pub returns-clause-queued : goal.returns-clause-queued
unfolding digits
returns-clause-queued c = refl

pub returns-clause-far : goal.returns-clause-far
unfolding digits
returns-clause-far c = refl

pub returns-clause-held : goal.returns-clause-held
unfolding digits
returns-clause-held c = refl

pub returns-clause-runs : goal.returns-clause-runs
unfolding digits
returns-clause-runs c = refl

pub returns-clause-offered : goal.returns-clause-offered
unfolding digits
returns-clause-offered c = refl

pub returns-clause-committed : goal.returns-clause-committed
unfolding digits
returns-clause-committed c = refl

pub returns-clause-promised : goal.returns-clause-promised
unfolding digits
returns-clause-promised c = refl

pub returns-clause-old : goal.returns-clause-old
unfolding digits
returns-clause-old c = refl
