use Rattle.std.proofs.Common.{refl}
use Rattle.nqs_rules.specs.Applied.{applied}
use Rattle.nqs_rules.specs.Stepped.{plan_of}
use Rattle.nqs_back.proofs.Plans.{bare_made, bare_done, said_alike}
use Rattle.nqs_back.proofs.laws.plans_do_the_same_without_bytes.Goals as goal

pub returns : goal.returns
returns c = record {
  made = λ c d s shape. bare_made c d s s (applied d s) shape refl refl;
  done = λ done s. bare_done done (plan_of done) refl s;
  said = λ done. said_alike done (plan_of done) refl;
}
