use Rattle.nqs_reach.proofs.Runs.{jobs_stay}
use Rattle.nqs_reach.proofs.laws.running_jobs_stay.Goals as goal

pub returns : goal.returns
returns c = jobs_stay
