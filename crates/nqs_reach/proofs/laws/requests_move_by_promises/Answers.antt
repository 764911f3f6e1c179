use Rattle.nqs_reach.proofs.Runs.{reached_by, promised_before}
use Rattle.nqs_reach.proofs.laws.requests_move_by_promises.Goals as goal

pub returns : goal.returns
returns c = record { gone = λ a s id has. (reached_by a s).left id has; come = λ a s id new has. promised_before a s id new has }
