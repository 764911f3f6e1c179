use Rattle.nqs_reasons.proofs.Picks.{next_starts, picked_before, none_next, next_first, picked_first, next_waits}
use Rattle.nqs_reasons.proofs.laws.next_request_waits_for_those_before.Goals as goal

pub returns : goal.returns
returns c = record {
  some = next_starts;
  before = λ now s place r order. picked_before now s order place r;
  rest = none_next;
  first = next_first;
  starts = λ now s place r queue_place d order. picked_first now s order place r queue_place d;
  waiting = next_waits;
}
