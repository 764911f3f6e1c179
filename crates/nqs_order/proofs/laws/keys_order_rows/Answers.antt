use Rattle.nqs_index.proofs.OrderLemmas.{order_is}
use Rattle.nqs_order.proofs.laws.keys_order_rows.Goals as goal

pub returns : goal.returns
returns c = (λ a b. order_is (record { priority = a.job.priority; arrival = a.arrival }) (record { priority = b.job.priority; arrival = b.arrival }))
