use Rattle.std.proofs.Common.{length, ap, ◌∙◌}
use Rattle.std.specs.List.{list_all}
use Rattle.nqs_load.specs.Balance.{is_of_site}
use Rattle.nqs_load.proofs.Balances.{all_turned}
use Rattle.nqs_load.proofs.plan.plan_order.Goals as goal

pub first_edits-requires : goal.first_edits-requires
first_edits-requires c =
    ap (list_all (is_of_site (length c.args.site.now))) (c.as_slice.ensures.value ∙ c.in_ok-order.ensures)
    ∙ all_turned (is_of_site (length c.args.site.now)) c.args.loads.now c.requires
