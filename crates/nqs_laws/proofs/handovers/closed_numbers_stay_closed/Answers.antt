use Rattle.nqs_laws.proofs.Closing.{stays_closed}
use Rattle.nqs_laws.proofs.handovers.closed_numbers_stay_closed.Goals as goal

pub returns : goal.returns
returns c = λ site acts more few sane from to number t u tat uat closed. stays_closed site few acts more sane from to number t u tat uat closed
