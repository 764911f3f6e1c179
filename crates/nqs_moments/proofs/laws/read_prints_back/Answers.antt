use Rattle.nqs_moments.proofs.Moments as lemmas
use Rattle.nqs_moments.proofs.laws.read_prints_back.Goals as goal

pub returns : goal.returns
returns c = lemmas.read_prints_back
