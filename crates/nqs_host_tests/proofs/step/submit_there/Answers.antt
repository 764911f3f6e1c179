use Rattle.std.proofs.Common.{◌∙◌, ◌∷◌, [], codes, refl, sym, ap, subst}
use Rattle.std.specs.Fmt.{digits}
use Rattle.nqs_state.specs.State.{State}
use Rattle.nqs_base.specs.declared.extent.Extent.{Extent}
use Rattle.nqs_rules.specs.Format.{new_peer}
use Rattle.nqs_rules.specs.InOrder.{IsInOrder}
use Rattle.nqs_host_tests.specs.PlotHost.{plot_host, plot_queue}
use Rattle.nqs_host_tests.proofs.step.submit_there.Goals as goal

order : IsInOrder (plot_host 11 [])
unfolding digits
order = record {
  site = refl;
  parameters = refl;
  short = refl;
  keys = refl;
  arrivals = refl;
  queues = refl;
  complexes = refl;
  rows = refl;
  promises =
      refl;
  hands = refl;
  few = refl;
  offers = refl;
  peers = refl;
  stages = refl;
  files = refl;
}

pub plan_submission-requires : goal.plan_submission-requires
plan_submission-requires c = subst IsInOrder (sym (c.in_ok-fill.ensures ∙ ap {A = State Extent}
    (λ s. record s { site = codes "plot" ∷ []; queues = plot_queue ∷ []; peers = new_peer ∷ [] }) c.requires)) order
