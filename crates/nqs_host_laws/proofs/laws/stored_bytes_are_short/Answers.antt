use Rattle.nqs_rules.specs.Start.{start}
use Rattle.nqs_host_laws.proofs.Modest.{step_modest, start_modest, both_of}
use Rattle.nqs_host_laws.proofs.laws.stored_bytes_are_short.Goals as goal

pub returns : goal.returns
returns c = record { step = λ e s order sane. (step_modest s order e sane).0; start = λ now s order. (both_of (start now s) (start_modest s now)).0 }
