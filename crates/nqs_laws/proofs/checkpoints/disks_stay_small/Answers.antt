use Rattle.nqs_laws.proofs.SmallDisks.{run_small}
use Rattle.nqs_laws.proofs.checkpoints.disks_stay_small.Goals as goal

pub returns : goal.returns
returns c = λ site acts h host there. run_small site acts h.0 host there
