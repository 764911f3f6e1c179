use Rattle.std.proofs.Common.{refl}
use Rattle.nqs_laws.proofs.WholeHeals.{promise_settled}
use Rattle.nqs_laws.proofs.whole_heals.promises_are_settled.Goals as goal

pub returns : goal.returns
returns c = λ site acts few sane host from number s at k. promise_settled site few _ (record { acts = acts; sane = sane; is = refl }) host from number s at k
