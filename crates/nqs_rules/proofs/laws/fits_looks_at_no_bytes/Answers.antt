use Rattle.nqs_rules.proofs.FitsPlain.{fits-state, fits-change}
use Rattle.nqs_rules.proofs.laws.fits_looks_at_no_bytes.Goals as goal

pub returns : goal.returns
returns c = record { state = λ f change s. fits-state f change s; change = λ f change s. fits-change f change s }
