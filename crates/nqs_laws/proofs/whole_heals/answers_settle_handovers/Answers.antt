use Rattle.std.proofs.Common.{refl}
use Rattle.nqs_laws.proofs.WholeHeals.{verdict_arrives, done_arrives}
use Rattle.nqs_laws.proofs.whole_heals.answers_settle_handovers.Goals as goal

pub returns : goal.returns
returns c = record {
  verdict = λ site acts few sane k from to number m at is up. verdict_arrives site few _
      (record { acts = acts; sane = sane; is = refl }) k from to number m at is up;
  done = λ site acts few sane k from to number at up. done_arrives site few _ (record { acts = acts; sane = sane; is = refl }) k from to number at up;
}
