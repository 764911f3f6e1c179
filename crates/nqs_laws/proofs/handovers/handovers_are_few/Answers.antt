use Rattle.nqs_laws.proofs.Near.{all_few}
use Rattle.nqs_laws.proofs.handovers.handovers_are_few.Goals as goal

pub returns : goal.returns
returns c = λ site acts few sane from to s t sat tat. all_few site few acts sane from to s t sat tat
