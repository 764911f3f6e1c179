use Rattle.nqs_rules.proofs.MessagesFit.{step_fits}
use Rattle.nqs_rules.proofs.order_laws.step_fits.Goals as goal

pub returns : goal.returns
returns c = λ e s h sane. step_fits s h e sane
