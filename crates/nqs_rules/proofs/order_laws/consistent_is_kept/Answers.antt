use Rattle.nqs_rules.proofs.ChangesConsistent.{applied_consistent}
use Rattle.nqs_rules.proofs.order_laws.consistent_is_kept.Goals as goal

pub returns : goal.returns
returns c = λ change s h calm sane fit. applied_consistent s h calm change fit
