use Rattle.nqs_codec.proofs.ReadBack.{u32_back}
use Rattle.nqs_codec.proofs.laws.u32_is_read_back.Goals as goal

pub returns : goal.returns
returns c = u32_back
