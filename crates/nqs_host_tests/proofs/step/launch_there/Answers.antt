use Rattle.std.proofs.Common.{◌∙◌, ◌∷◌, [], codes, refl, sym, ap, subst}
use Rattle.std.specs.Fmt.{digits}
use Rattle.nqs_base.specs.Path.{has_parent}
use Rattle.nqs_types.specs.declared.request.RowState.TheVariants.{Queued}
use Rattle.nqs_state.specs.State.{State}
use Rattle.nqs_base.specs.declared.extent.Extent.{Extent}
use Rattle.nqs_rules.specs.Format.{new_peer}
use Rattle.nqs_rules.specs.InOrder.{IsInOrder}
use Rattle.nqs_host_tests.specs.PlotHost.{plot_host, plot_queue, plot_row, plot_job}
use Rattle.nqs_host_tests.proofs.step.launch_there.Goals as goal

order : IsInOrder (plot_host 12 (plot_row (plot_job (codes "o") (codes "e")) Queued 2 ∷ []))
unfolding digits has_parent
order = record {
  site = refl;
  parameters = refl;
  short = refl;
  keys = refl;
  arrivals = refl;
  queues = refl;
  complexes = refl;
  rows = refl;
  promises =
      refl;
  hands = refl;
  few = refl;
  offers = refl;
  peers = refl;
  stages = refl;
  files = refl;
}

pub plan_launch-requires : goal.plan_launch-requires
plan_launch-requires c = subst IsInOrder (sym (c.in_ok-fill_with.ensures ∙ ap {A = State Extent}
    (λ s. record s {
      site = codes "plot" ∷ [];
      queues = plot_queue ∷ [];
      peers = new_peer ∷ [];
      rows =
          plot_row (plot_job (codes "o") (codes "e")) Queued 2 ∷ [];
    }) c.requires)) order
