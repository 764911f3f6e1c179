use Rattle.nqs_codec.proofs.ReadBack.{name_back}
use Rattle.nqs_codec.proofs.laws.name_is_read_back.Goals as goal

pub returns : goal.returns
returns c = name_back
