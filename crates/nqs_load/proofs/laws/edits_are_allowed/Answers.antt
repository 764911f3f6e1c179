use Rattle.nqs_load.proofs.Balances.{edits_fit}
use Rattle.nqs_load.proofs.laws.edits_are_allowed.Goals as goal

pub returns : goal.returns
returns c = edits_fit
