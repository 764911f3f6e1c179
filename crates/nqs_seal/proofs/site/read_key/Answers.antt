use Rattle.std.proofs.Common.{rules}
use Rattle.nqs_seal.proofs.Keys.{no_key}
use Rattle.nqs_seal.proofs.site.read_key.Goals as goal

pub returns-in-None : goal.returns-in-None
returns-in-None c =
    no_key c.args.bytes.now c.in-Some-eq10-default.line.now (search rules) (search rules) c.in-None.ensures.none
