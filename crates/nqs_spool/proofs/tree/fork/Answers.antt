use Rattle.std.proofs.Common.{arith}
use Rattle.nqs_spool.proofs.Rows.{widest-append}
use Rattle.nqs_spool.proofs.tree.fork.Goals as goal

pub returns-clause-measured : goal.returns-clause-measured
returns-clause-measured c = grind (arith, widest-append c.args.left.value c.args.slot c.args.right.value)
