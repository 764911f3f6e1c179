use Rattle.std.proofs.Common.{◌∙◌, ◌∷◌, [], codes, sym, ap, subst}
use Rattle.nqs_state.specs.State.{State}
use Rattle.nqs_base.specs.declared.extent.Extent.{Extent}
use Rattle.nqs_rules.specs.Format.{new_peer}
use Rattle.nqs_rules.specs.InOrder.{IsInOrder}
use Rattle.nqs_host_tests.specs.PlotHost.{plot_queue, plot_row, plot_job}
use Rattle.nqs_host_tests.proofs.step.delete_there.Goals as goal

pub plan_deletion-requires : goal.plan_deletion-requires
plan_deletion-requires c = subst IsInOrder (sym (c.in_ok-fill_with.ensures
    ∙ ap {A = State Extent} (λ s. record s {
      site = codes "plot" ∷ [];
      queues = plot_queue ∷ [];
      peers = new_peer ∷ [];
      rows =
          plot_row (plot_job (codes "o") (codes "e")) c.args.standing c.args.lost ∷ [];
    }) c.requires.blank)) c.requires.order
