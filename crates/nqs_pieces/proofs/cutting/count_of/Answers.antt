use Rattle.std.proofs.Common.{sym}
use Rattle.nqs_pieces.proofs.FormLaws.{count_is}
use Rattle.nqs_pieces.proofs.cutting.count_of.Goals as goal

pub returns : goal.returns
returns c = sym (count_is c.args.message.now)
