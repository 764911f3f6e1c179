use Rattle.nqs_laws.proofs.HandoverLaws.{all_in_step}
use Rattle.nqs_laws.proofs.handovers.handovers_are_in_step.Goals as goal

pub returns : goal.returns
returns c = λ site acts few sane from to s t sat tat. all_in_step site few acts sane from to s t sat tat
