use Rattle.nqs_pieces.proofs.Steps.{fed_forgets}
use Rattle.nqs_pieces.proofs.laws.whole_messages_are_forgotten.Goals as goal

pub returns : goal.returns
returns c = fed_forgets
