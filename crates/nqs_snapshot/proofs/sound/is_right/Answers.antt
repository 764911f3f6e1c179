use Rattle.nqs_state.specs.State.{content}
use Rattle.nqs_snapshot.proofs.Sane.{rows_stand, promises_stand, stages_stand, files_stand}
use Rattle.nqs_snapshot.proofs.sound.is_right.Goals as goal

pub are_values_right-requires-clause-rows : goal.are_values_right-requires-clause-rows
are_values_right-requires-clause-rows c = rows_stand (content c.args.state.now) c.requires

pub are_values_right-requires-clause-promises : goal.are_values_right-requires-clause-promises
are_values_right-requires-clause-promises c = promises_stand (content c.args.state.now) c.requires

pub are_values_right-requires-clause-stages : goal.are_values_right-requires-clause-stages
are_values_right-requires-clause-stages c = stages_stand (content c.args.state.now) c.requires

pub are_values_right-requires-clause-files : goal.are_values_right-requires-clause-files
are_values_right-requires-clause-files c = files_stand (content c.args.state.now) c.requires
