use Rattle.nqs_rules.proofs.PickLaws.{picked_is, picked_is_some}
use Rattle.nqs_rules.proofs.start_laws.first_row_of_next_queue_is_picked.Goals as goal

pub returns : goal.returns
returns c = record { picked = picked_is; some = picked_is_some }
