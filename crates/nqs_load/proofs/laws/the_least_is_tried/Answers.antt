use Rattle.std.proofs.Common.{◌≡◌, ◌∙◌, ap, sym}
use Rattle.std.proofs.lemmas.Option.{same_Some}
use Rattle.nqs_rules.specs.Find.{find_queue}
use Rattle.nqs_rules.specs.Routing.{destination, may_try}
use Rattle.nqs_load.specs.Load.{load_order}
use Rattle.nqs_load.specs.Balance.{dests_in, with_dests}
use Rattle.nqs_load.proofs.Balances.{found_behind}
use Rattle.nqs_load.proofs.Least.{chosen, position-among}
use Rattle.nqs_load.proofs.Orders.{load_order_is}
use Rattle.nqs_load.proofs.laws.the_least_is_tried.Goals as goal

pub returns : goal.returns
returns c = λ pipe loads s t queue now row just is found.
    let order = load_order loads in
    let lists : with_dests (dests_in order) just.queue ≡ queue = same_Some _ _ (sym (found_behind pipe loads s just) ∙ ap (find_queue pipe) (sym is) ∙ found) in
    chosen (λ load. may_try now t row load.dest) order (load_order_is loads).sorted (destination queue now t row)
    (sym (position-among (may_try now t row) order) ∙ ap (λ d. destination d now t row) lists)
