use Rattle.nqs_laws.proofs.Closing.{stays_taken}
use Rattle.nqs_laws.proofs.handovers.promises_go_when_closed.Goals as goal

pub returns : goal.returns
returns c = λ site acts more few sane from to number t u tat uat taken. stays_taken site few acts more sane from to number t u tat uat taken
