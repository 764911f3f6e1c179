use Rattle.nqs_rules.proofs.PickLaws.{next_queue_is, next_queue_is_some}
use Rattle.nqs_rules.proofs.start_laws.next_queue_is_greatest.Goals as goal

pub returns : goal.returns
returns c = record { next = next_queue_is; some = next_queue_is_some }
