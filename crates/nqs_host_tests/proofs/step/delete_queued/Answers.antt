use Rattle.std.proofs.Common.{refl}
use Rattle.std.specs.Fmt.{digits}
use Rattle.nqs_base.specs.Path.{has_parent}
use Rattle.nqs_host_tests.proofs.step.delete_queued.Goals as goal

pub delete_there-seen-requires-clause-order : goal.delete_there-seen-requires-clause-order
unfolding digits has_parent
delete_there-seen-requires-clause-order c = record {
  site = refl;
  parameters = refl;
  short = refl;
  keys = refl;
  arrivals = refl;
  queues = refl;
  complexes =
      refl;
  rows = refl;
  promises = refl;
  hands = refl;
  few = refl;
  offers = refl;
  peers = refl;
  stages = refl;
  files = refl;
}
