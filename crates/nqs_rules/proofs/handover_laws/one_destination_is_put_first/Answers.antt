use Rattle.std.proofs.Common.{refl}
use Rattle.nqs_rules.proofs.PutFirst.{put_first}
use Rattle.nqs_rules.proofs.handover_laws.one_destination_is_put_first.Goals as goal

pub returns : goal.returns
returns c = record { dests = λ dest d listed. put_first dest d.dests listed; rest = λ dest d. refl }
