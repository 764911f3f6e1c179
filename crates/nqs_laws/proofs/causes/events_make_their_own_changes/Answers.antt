use Rattle.nqs_laws.proofs.Caused.{run_caused}
use Rattle.nqs_laws.proofs.causes.events_make_their_own_changes.Goals as goal

pub returns : goal.returns
returns c = λ acts w. run_caused acts w
