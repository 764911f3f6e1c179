use Rattle.nqs_laws.proofs.CheckpointLaws.{shows_nothing}
use Rattle.nqs_laws.proofs.checkpoints.checkpoints_show_nothing.Goals as goal

pub returns : goal.returns
returns c = shows_nothing
