use Rattle.nqs_reach.specs.Deliveries.{after_message}
use Rattle.nqs_reach.specs.Reach.{is_in_reach}
use Rattle.nqs_reach.proofs.Runs.{reached_by, row_stays}
use Rattle.nqs_reach.proofs.laws.requests_out_of_reach_stay.Goals as goal

pub returns : goal.returns
returns c = record {
  row = λ a s id out. row_stays a.1.from (is_in_reach a.1.from s) s (after_message a s) (reached_by a s).within id out;
  out = λ a s id has out. (reached_by a s).out id has out;
}
