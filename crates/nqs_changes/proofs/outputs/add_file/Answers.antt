use Rattle.nqs_state.specs.State.{content}
use Rattle.nqs_changes.proofs.Fresh.{file_is_new}
use Rattle.nqs_changes.proofs.outputs.add_file.Goals as goal

pub push-requires-clause-absent : goal.push-requires-clause-absent
push-requires-clause-absent c = file_is_new (content c.args.state.now) c.requires.order
