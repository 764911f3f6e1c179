use Rattle.nqs_pieces.proofs.Law.{makes_the_message}
use Rattle.nqs_pieces.proofs.laws.pieces_make_the_message.Goals as goal

pub returns : goal.returns
returns c = makes_the_message
