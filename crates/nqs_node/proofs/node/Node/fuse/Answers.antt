use Rattle.std.proofs.Common.{refl}
use Rattle.nqs_node.proofs.Telling.{tells_still}
use Rattle.nqs_node.proofs.node.Node.fuse.Goals as goal

pub returns-clause-tells : goal.returns-clause-tells
returns-clause-tells g c = λ s told. tells_still c.args.self.now s told _ refl c.fuse.ensures.same c.fuse.ensures.tells told.running
