use Rattle.nqs_back.proofs.Counts.{start_few}
use Rattle.nqs_back.proofs.laws.one_comes_back_of_a_start.Goals as goal

pub returns : goal.returns
returns c = λ now s. start_few s now
