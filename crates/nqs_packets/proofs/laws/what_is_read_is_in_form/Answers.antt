use Rattle.nqs_packets.proofs.PieceLaws.{in_form}
use Rattle.nqs_packets.proofs.laws.what_is_read_is_in_form.Goals as goal

pub returns : goal.returns
returns c = in_form
