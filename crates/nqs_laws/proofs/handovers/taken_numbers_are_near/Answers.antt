use Rattle.nqs_laws.proofs.Near.{all_near}
use Rattle.nqs_laws.proofs.handovers.taken_numbers_are_near.Goals as goal

pub returns : goal.returns
returns c = λ site acts few sane from to s t sat tat. all_near site few acts sane from to s t sat tat
