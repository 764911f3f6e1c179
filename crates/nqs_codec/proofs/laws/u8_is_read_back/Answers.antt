use Rattle.nqs_codec.proofs.ReadBack.{u8_back}
use Rattle.nqs_codec.proofs.laws.u8_is_read_back.Goals as goal

pub returns : goal.returns
returns c = u8_back
