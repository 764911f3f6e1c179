use Rattle.nqs_codec.proofs.ReadBack.{u16_back}
use Rattle.nqs_codec.proofs.laws.u16_is_read_back.Goals as goal

pub returns : goal.returns
returns c = u16_back
