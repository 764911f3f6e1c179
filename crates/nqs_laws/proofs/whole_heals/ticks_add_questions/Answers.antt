use Rattle.std.proofs.Common.{refl}
use Rattle.nqs_laws.proofs.WholeHeals.{tick_inquires, tick_commits}
use Rattle.nqs_laws.proofs.whole_heals.ticks_add_questions.Goals as goal

pub returns : goal.returns
returns c = record {
  inquiries = λ site acts few sane host from number s at k up. tick_inquires site few _
      (record { acts = acts; sane = sane; is = refl }) host from number s at k up;
  commits = λ site acts few sane host to number s at k up. tick_commits site few _ (record { acts = acts; sane = sane; is = refl }) host to number s at k up;
}
