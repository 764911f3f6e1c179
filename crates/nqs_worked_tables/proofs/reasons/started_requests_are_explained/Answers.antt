use Rattle.std.proofs.Common.{refl}
use Rattle.std.specs.Fmt.{digits}
use Rattle.nqs_worked_tables.proofs.reasons.started_requests_are_explained.Goals as goal

pub returns-clause-running : goal.returns-clause-running
unfolding digits
returns-clause-running c = refl

pub returns-clause-moved : goal.returns-clause-moved
unfolding digits
returns-clause-moved c = refl
