use Rattle.std.proofs.Common.{arith}
use Rattle.nqs_index.proofs.index.Index.empty.Goals as goal

pub returns-clause-most : goal.returns-clause-most
returns-clause-most c few = let m = c.roomy.ensures.most in omega (arith, m)
