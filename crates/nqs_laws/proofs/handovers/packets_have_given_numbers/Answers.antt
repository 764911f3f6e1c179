use Rattle.nqs_laws.proofs.HandoverLaws.{all_numbered}
use Rattle.nqs_laws.proofs.handovers.packets_have_given_numbers.Goals as goal

pub returns : goal.returns
returns c = λ site acts few sane m sent s t sat tat. all_numbered site few acts sane m sent s t sat tat
