use Rattle.nqs_laws.proofs.HandoverLaws.{all_true}
use Rattle.nqs_laws.proofs.handovers.messages_stay_true.Goals as goal

pub returns : goal.returns
returns c = λ site acts few sane m sent s t sat tat. all_true site few acts sane m sent s t sat tat
