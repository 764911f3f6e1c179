use Rattle.nqs_packets.proofs.PieceLaws.{in_form_may}
use Rattle.nqs_packets.proofs.laws.what_is_in_form_may_be_sent.Goals as goal

pub returns : goal.returns
returns c = in_form_may
