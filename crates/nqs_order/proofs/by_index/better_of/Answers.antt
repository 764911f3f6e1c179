use Rattle.std.proofs.Common.{arith}
use Rattle.nqs_order.proofs.by_index.better_of.Goals as goal

pub returns-then-is_ahead-clause-rises : goal.returns-then-is_ahead-clause-rises
returns-then-is_ahead-clause-rises g c =
    let a = c.is_ahead.ensures.rises in
    let b = c.earlier.ensures.rises in
    omega (arith, a, b)

pub returns-then-is_ahead-clause-cost : goal.returns-then-is_ahead-clause-cost
returns-then-is_ahead-clause-cost g c =
    let a = c.is_ahead.ensures.cost in
    let b = c.earlier.ensures.cost in
    omega (arith, a, b)
