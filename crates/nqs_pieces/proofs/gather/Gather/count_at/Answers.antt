use Rattle.std.proofs.Common.{ap, arith, length}
use Rattle.nqs_pieces.proofs.gather.Gather.count_at.Goals as goal

pub returns-clause-few : goal.returns-clause-few
returns-clause-few c = omega (arith, ap length c.self.view_is)
