use Rattle.nqs_back.proofs.Counts.{bare_counted}
use Rattle.nqs_back.proofs.Lowered.{bare_left, bare_lowers}
use Rattle.nqs_back.proofs.laws.bytes_bring_nothing_back.Goals as goal

pub returns : goal.returns
returns c = record { left = λ s. bare_left s; lowers = λ now s x. bare_lowers s now x; comebacks = bare_counted }
