use Rattle.nqs_pieces.proofs.FormLaws.{cut_form}
use Rattle.nqs_pieces.proofs.laws.pieces_are_in_form.Goals as goal

pub returns : goal.returns
returns c = cut_form
