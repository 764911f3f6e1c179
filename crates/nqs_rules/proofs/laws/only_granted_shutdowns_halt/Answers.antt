use Rattle.nqs_rules.proofs.StepHalts.{step-halts}
use Rattle.nqs_rules.proofs.laws.only_granted_shutdowns_halt.Goals as goal

pub returns : goal.returns
returns c = λ e s. step-halts e s
