use Rattle.nqs_rules.specs.Start.{start}
use Rattle.nqs_host_laws.proofs.Modest.{step_modest, start_modest, both_of, few-map}
use Rattle.nqs_host_laws.proofs.laws.few_offers_are_taken_back.Goals as goal

pub returns : goal.returns
returns c = record {
  step = λ e s order sane. (step_modest s order e sane).1;
  start = λ now s order. (both_of (start now s) (start_modest s now)).1;
  mapped = λ f c. few-map f c;
}
