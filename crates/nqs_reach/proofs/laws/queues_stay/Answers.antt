use Rattle.std.proofs.Common.{ap, find}
use Rattle.nqs_state.specs.Keys.{is_queue, is_complex, is_device}
use Rattle.nqs_reach.proofs.Runs.{kept_settings}
use Rattle.nqs_reach.proofs.laws.queues_stay.Goals as goal

pub returns : goal.returns
returns c = record {
  queues = λ deliveries s name. ap (find (is_queue name)) (kept_settings deliveries s).queues;
  complexes = λ deliveries s name. ap (find (is_complex name)) (kept_settings deliveries s).complexes;
  devices = λ deliveries s name. ap (find (is_device name)) (kept_settings deliveries s).devices;
}
