use Rattle.nqs_rules.proofs.FilledLemmas.{filled-plan, filled-planned, read-planned}
use Rattle.nqs_rules.proofs.laws.filled_change_is_planned.Goals as goal

pub returns : goal.returns
returns c = record { plan = filled-plan; filled = filled-planned; read = read-planned }
