use Rattle.nqs_language_acts.proofs.Schedules.{schedules_are_sane}
use Rattle.nqs_language_acts.proofs.laws.schedules_are_sane.Goals as goal

pub returns : goal.returns
returns c = schedules_are_sane
