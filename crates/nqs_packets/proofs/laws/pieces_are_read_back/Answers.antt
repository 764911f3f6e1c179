use Rattle.nqs_packets.proofs.LetterLaws.{pieces_read_back}
use Rattle.nqs_packets.proofs.laws.pieces_are_read_back.Goals as goal

pub returns : goal.returns
returns c = pieces_read_back c.pieces_are_in_form.ensures
