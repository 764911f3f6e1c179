use Rattle.nqs_load.proofs.Balances.{state_behind, dests_behind}
use Rattle.nqs_load.proofs.laws.edits_make_the_order.Goals as goal

pub returns : goal.returns
returns c = record { state = state_behind; dests = dests_behind }
