use Rattle.nqs_serve.proofs.Sorting.{events_are_taken}
use Rattle.nqs_serve.proofs.laws.sorted_events_are_taken.Goals as goal

pub returns : goal.returns
returns c = events_are_taken
