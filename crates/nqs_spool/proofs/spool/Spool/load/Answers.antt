use Rattle.std.proofs.Common.{length}
use Rattle.nqs_outside.specs.History.{content}
use Rattle.nqs_spool.proofs.spool.Spool.load.Goals as goal

pub open-requires-clause-within : goal.open-requires-clause-within
open-requires-clause-within g c = λ told. c.in-Ok.ensures.end (length (content (g.D.Disk.history c.args.disk))) (c.requires.within told)
