use Rattle.nqs_language_acts.proofs.Generated.{generated_schedules_are_sane}
use Rattle.nqs_language_acts.proofs.laws.generated_schedules_are_sane.Goals as goal

pub returns : goal.returns
returns c = generated_schedules_are_sane
