use Rattle.nqs_laws.proofs.HealLaws.{inquiry, commit}
use Rattle.nqs_laws.proofs.heals.answers_are_sent.Goals as goal

pub returns : goal.returns
returns c = record {
  inquiry = λ site acts few sane m number sent is s t sat tat now. inquiry site few acts sane m number sent is s t sat tat now;
  commit = λ site acts few sane m number sent is s t sat tat now. commit site few acts sane m number sent is s t sat tat now;
}
