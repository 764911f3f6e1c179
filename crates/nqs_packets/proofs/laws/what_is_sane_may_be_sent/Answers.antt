use Rattle.nqs_packets.proofs.SaneLaws.{what_is_sane_may_be_sent}
use Rattle.nqs_packets.proofs.laws.what_is_sane_may_be_sent.Goals as goal

pub returns : goal.returns
returns c = what_is_sane_may_be_sent
