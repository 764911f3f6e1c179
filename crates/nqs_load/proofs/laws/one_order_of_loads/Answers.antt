use Rattle.nqs_load.proofs.Orders.{load_order_is, only_order}
use Rattle.nqs_load.proofs.laws.one_order_of_loads.Goals as goal

pub returns : goal.returns
returns c = record { is = load_order_is; one = λ loads order h. only_order loads order h.sorted h.ties }
