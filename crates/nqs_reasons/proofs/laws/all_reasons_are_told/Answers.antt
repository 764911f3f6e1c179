use Rattle.nqs_reasons.proofs.Said.{first_told, none_keeps, next_alone}
use Rattle.nqs_reasons.proofs.laws.all_reasons_are_told.Goals as goal

pub returns : goal.returns
returns c = record {
  first = λ now s r. first_told now s r;
  complete = λ now s place r d at found. none_keeps now s r place d at found;
  alone = λ now s place r n at h. next_alone now s r place n at h;
}
