use Rattle.nqs_rules.proofs.Until.{start_lowers, start_changes, starts_few}
use Rattle.nqs_rules.proofs.start_laws.start_lowers_starts_left.Goals as goal

pub returns : goal.returns
returns c = record { lowers = start_lowers; changes = start_changes; few = starts_few }
