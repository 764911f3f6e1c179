use Rattle.nqs_moments.proofs.Moments as lemmas
use Rattle.nqs_moments.proofs.laws.printed_reads_back.Goals as goal

pub returns : goal.returns
returns c = lemmas.printed_reads_back
