use Rattle.nqs_reach.proofs.Runs.{kept_settings}
use Rattle.nqs_reach.proofs.laws.settings_stay.Goals as goal

pub returns : goal.returns
returns c = kept_settings
