use Rattle.nqs_state.specs.State.{content}
use Rattle.nqs_snapshot.proofs.Sane.{rows_sane, promises_sane, stages_sane, files_sane}
use Rattle.nqs_snapshot.proofs.write.put_state.Goals as goal

pub put_requests-requires-clause-rows : goal.put_requests-requires-clause-rows
put_requests-requires-clause-rows c = rows_sane (content c.args.state.now) c.requires

pub put_requests-requires-clause-promises : goal.put_requests-requires-clause-promises
put_requests-requires-clause-promises c = promises_sane (content c.args.state.now) c.requires

pub put_dealings-requires-clause-stages : goal.put_dealings-requires-clause-stages
put_dealings-requires-clause-stages c = stages_sane (content c.args.state.now) c.requires

pub put_dealings-requires-clause-files : goal.put_dealings-requires-clause-files
put_dealings-requires-clause-files c = files_sane (content c.args.state.now) c.requires
