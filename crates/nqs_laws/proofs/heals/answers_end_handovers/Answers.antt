use Rattle.nqs_laws.proofs.HealLaws.{commit_leaves, abort_leaves, done_leaves}
use Rattle.nqs_laws.proofs.heals.answers_end_handovers.Goals as goal

pub returns : goal.returns
returns c = record {
  commit = λ site acts few sane m number is t tat now. commit_leaves site few acts sane m number is t tat now;
  abort = λ site acts few sane m number is t tat now. abort_leaves site few acts sane m number is t tat now;
  done = λ site acts few sane m number sent is s t sat tat now. done_leaves site few acts sane m number sent is s t sat tat now;
}
