use Rattle.nqs_reasons.proofs.Failing.{failing_first, failing_only}
use Rattle.nqs_reasons.proofs.laws.first_failing_is_told.Goals as goal

pub returns : goal.returns
returns c = record { told = failing_first; only = failing_only }
