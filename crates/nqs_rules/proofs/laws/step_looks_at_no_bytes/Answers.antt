use Rattle.nqs_rules.proofs.StepPlain.{step-map}
use Rattle.nqs_rules.proofs.laws.step_looks_at_no_bytes.Goals as goal

pub returns : goal.returns
returns c = λ f event s. step-map f event s
