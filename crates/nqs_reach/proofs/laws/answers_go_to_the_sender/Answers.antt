use Rattle.nqs_reach.proofs.Spoken.{answered}
use Rattle.nqs_reach.proofs.laws.answers_go_to_the_sender.Goals as goal

pub returns : goal.returns
returns c = λ a s. answered a.1.from s a.1.body
