use Rattle.nqs_laws.proofs.CheckpointLaws.{ready_differs}
use Rattle.nqs_laws.proofs.checkpoints.checkpoints_change_no_state.Goals as goal

pub returns : goal.returns
returns c = ready_differs
