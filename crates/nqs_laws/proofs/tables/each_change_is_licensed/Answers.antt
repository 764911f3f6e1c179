use Rattle.nqs_laws.proofs.LicensedRuns.{run_history}
use Rattle.nqs_laws.proofs.tables.each_change_is_licensed.Goals as goal

pub returns : goal.returns
returns c = λ site acts few sane. (run_history site few acts sane).licensed
