use Rattle.nqs_real.proofs.Flat as lemmas
use Rattle.nqs_real.proofs.lost.names_differ.Goals as goal

pub returns : goal.returns
returns c = lemmas.names_differ
