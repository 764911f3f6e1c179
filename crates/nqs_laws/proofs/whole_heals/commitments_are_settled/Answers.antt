use Rattle.std.proofs.Common.{refl}
use Rattle.nqs_laws.proofs.WholeHeals.{commitment_settled}
use Rattle.nqs_laws.proofs.whole_heals.commitments_are_settled.Goals as goal

pub returns : goal.returns
returns c = λ site acts few sane host to number s at k. commitment_settled site few _ (record { acts = acts; sane = sane; is = refl }) host to number s at k
