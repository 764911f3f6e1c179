use Rattle.nqs_codec.proofs.ReadBack.{bool_back}
use Rattle.nqs_codec.proofs.laws.bool_is_read_back.Goals as goal

pub returns : goal.returns
returns c = bool_back
