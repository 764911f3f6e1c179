use Rattle.nqs_reasons.proofs.Picks.{picked_next, others_wait}
use Rattle.nqs_reasons.proofs.laws.only_next_requests_start.Goals as goal

pub returns : goal.returns
returns c = record {
  started = λ now s choice r order. picked_next now s order choice r;
  others = λ now s choice place r order. others_wait now s order choice place r;
}
