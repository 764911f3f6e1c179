use Rattle.nqs_laws.proofs.CheckpointLaws.{stops_as_it_was}
use Rattle.nqs_laws.proofs.checkpoints.stops_in_checkpoints_leave_the_state.Goals as goal

pub returns : goal.returns
returns c = stops_as_it_was
