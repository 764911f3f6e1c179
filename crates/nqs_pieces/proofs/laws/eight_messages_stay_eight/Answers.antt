use Rattle.nqs_pieces.proofs.Steps.{fed_eight}
use Rattle.nqs_pieces.proofs.laws.eight_messages_stay_eight.Goals as goal

pub returns : goal.returns
returns c = fed_eight
