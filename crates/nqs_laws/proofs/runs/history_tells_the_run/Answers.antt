use Rattle.std.proofs.Common.{refl}
use Rattle.nqs_laws.proofs.Told.{history_leads}
use Rattle.nqs_laws.proofs.runs.history_tells_the_run.Goals as goal

pub returns : goal.returns
returns c = record { seen = λ acts w. refl; states = history_leads }
