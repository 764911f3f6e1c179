use Rattle.nqs_packets.proofs.SaneLaws.{what_is_read_is_short}
use Rattle.nqs_packets.proofs.laws.what_is_read_is_short.Goals as goal

pub returns : goal.returns
returns c = what_is_read_is_short
