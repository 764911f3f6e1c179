use Rattle.nqs_qmgr.proofs.Faulted.{answers}
use Rattle.nqs_qmgr.proofs.lines.read_qmgr.Goals as goal

pub returns-clause-answers : goal.returns-clause-answers
returns-clause-answers c = answers c.args.line.now c.read_line.result c.read_line.ensures
