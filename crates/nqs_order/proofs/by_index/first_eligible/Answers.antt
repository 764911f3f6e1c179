use Rattle.std.proofs.Common.{length, ap, arith}
use Rattle.nqs_order.proofs.by_index.first_eligible.Goals as goal

pub returns-clause-cost : goal.returns-clause-cost
returns-clause-cost g c =
    let a = c.first_among.ensures.cost in
    let b = ap length c.classes.ensures in
    omega (arith, a, b)
