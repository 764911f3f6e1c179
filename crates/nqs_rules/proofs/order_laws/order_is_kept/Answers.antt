use Rattle.nqs_rules.proofs.ChangesOrder.{applied_order}
use Rattle.nqs_rules.proofs.order_laws.order_is_kept.Goals as goal

pub returns : goal.returns
returns c = λ change s h sane fit. applied_order change s h sane fit
