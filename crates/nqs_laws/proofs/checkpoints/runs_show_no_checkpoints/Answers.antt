use Rattle.nqs_laws.proofs.AlikeRuns.{run_alike}
use Rattle.nqs_laws.proofs.checkpoints.runs_show_no_checkpoints.Goals as goal

pub returns : goal.returns
returns c = run_alike
