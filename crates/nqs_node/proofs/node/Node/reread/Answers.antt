use Rattle.std.proofs.Common.{refl}
use Rattle.nqs_node.specs.Nodes.{content_of}
use Rattle.nqs_node.proofs.Telling.{tells_still}
use Rattle.nqs_node.proofs.node.Node.reread.Goals as goal

pub returns-clause-told : goal.returns-clause-told
returns-clause-told g c = λ yes s told. c.reread.ensures.told yes (content_of c.args.self.now) told.told

pub returns-clause-never : goal.returns-clause-never
returns-clause-never g c = λ yes s told. c.reread.ensures.never yes (content_of c.args.self.now) told.told

pub returns-clause-tells : goal.returns-clause-tells
returns-clause-tells g c = λ yes s told. tells_still c.args.self.now s told _ refl (c.reread.ensures.reads.same yes) (c.reread.ensures.tells yes) told.running

pub returns-clause-asks : goal.returns-clause-asks
returns-clause-asks g c = c.reread.ensures.asks
