use Rattle.nqs_reach.proofs.Runs.{reached_by}
use Rattle.nqs_reach.proofs.laws.messages_stay_within_reach.Goals as goal

pub returns : goal.returns
returns c = λ a s. (reached_by a s).within
