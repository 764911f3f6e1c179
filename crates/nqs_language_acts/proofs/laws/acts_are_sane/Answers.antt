use Rattle.nqs_language_acts.proofs.Schedules.{acts_are_sane}
use Rattle.nqs_language_acts.proofs.laws.acts_are_sane.Goals as goal

pub returns : goal.returns
returns c = acts_are_sane
