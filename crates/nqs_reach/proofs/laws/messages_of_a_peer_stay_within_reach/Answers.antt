use Rattle.nqs_reach.proofs.Runs.{in_the_end, end_row}
use Rattle.nqs_reach.proofs.laws.messages_of_a_peer_stay_within_reach.Goals as goal

pub returns : goal.returns
returns c = record {
  within = λ peer deliveries s from. in_the_end peer s deliveries from;
  row = λ peer deliveries s id from has out. end_row peer s deliveries from id has out;
}
