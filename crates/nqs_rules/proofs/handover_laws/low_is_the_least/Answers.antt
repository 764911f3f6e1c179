use Rattle.nqs_rules.proofs.Lows.{low-most, low-least, low-one}
use Rattle.nqs_rules.proofs.handover_laws.low_is_the_least.Goals as goal

pub returns : goal.returns
returns c = record {
  next = λ peer next hands. low-most peer next hands;
  hands = λ peer next hands. low-least peer next hands;
  one = λ peer next hands. low-one peer next hands;
}
