use Rattle.nqs_rules.proofs.StartFits.{start_fits}
use Rattle.nqs_rules.proofs.order_laws.start_fits.Goals as goal

pub returns : goal.returns
returns c = λ now s h. start_fits now s h
