use Rattle.std.proofs.Common.{refl}
use Rattle.std.specs.Fmt.{digits}
use Rattle.nqs_worked.proofs.definitions.states_are_plain.Goals as goal

pub returns-clause-state : goal.returns-clause-state
unfolding digits
returns-clause-state c = refl

pub returns-clause-step : goal.returns-clause-step
unfolding digits
returns-clause-step c = refl

pub returns-clause-parts : goal.returns-clause-parts
unfolding digits
returns-clause-parts c = refl

pub returns-clause-order : goal.returns-clause-order
unfolding digits
returns-clause-order c = record {
  site = refl;
  parameters = refl;
  short = refl;
  keys = refl;
  arrivals = refl;
  queues = refl;
  complexes = refl;
  rows =
      refl;
  promises = refl;
  hands = refl;
  few = refl;
  offers = refl;
  peers = refl;
  stages = refl;
  files = refl;
}

pub returns-clause-whole : goal.returns-clause-whole
unfolding digits
returns-clause-whole c = record {
  order = record {
    site = refl;
    parameters = refl;
    short = refl;
    keys = refl;
    arrivals = refl;
    queues = refl;
    complexes =
        refl;
    rows = refl;
    promises = refl;
    hands = refl;
    few = refl;
    offers = refl;
    peers = refl;
    stages = refl;
    files = refl;
  };
  parts = refl;
}

pub returns-clause-consistent : goal.returns-clause-consistent
unfolding digits
returns-clause-consistent c = record { doomed = refl; held = refl; routing = refl; promises = refl; given = refl }
