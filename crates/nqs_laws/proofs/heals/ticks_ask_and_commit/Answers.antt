use Rattle.nqs_laws.proofs.HealLaws.{asks, commits}
use Rattle.nqs_laws.proofs.heals.ticks_ask_and_commit.Goals as goal

pub returns : goal.returns
returns c = record {
  asks = λ site acts few sane host from s at now number k. asks site few acts sane host from s at now number k;
  commits = λ site acts few sane host to s at now number k. commits site few acts sane host to s at now number k;
}
