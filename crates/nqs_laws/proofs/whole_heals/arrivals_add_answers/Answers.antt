use Rattle.std.proofs.Common.{refl}
use Rattle.nqs_laws.proofs.WholeHeals.{inquiry_arrives, commit_arrives}
use Rattle.nqs_laws.proofs.whole_heals.arrivals_add_answers.Goals as goal

pub returns : goal.returns
returns c = record {
  inquiry = λ site acts few sane k from to number at up. inquiry_arrives site few _ (record { acts = acts; sane = sane; is = refl }) k from to number at up;
  commit = λ site acts few sane k from to number at up. commit_arrives site few _ (record { acts = acts; sane = sane; is = refl }) k from to number at up;
}
