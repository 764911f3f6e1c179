use Rattle.nqs_codec.proofs.ReadBack.{u64_back}
use Rattle.nqs_codec.proofs.laws.u64_is_read_back.Goals as goal

pub returns : goal.returns
returns c = u64_back
