use Rattle.nqs_pieces.proofs.CutLaws.{pieces_join}
use Rattle.nqs_pieces.proofs.laws.pieces_are_the_message.Goals as goal

pub returns : goal.returns
returns c = pieces_join
