use Rattle.nqs_language_acts.proofs.Schedules.{sites_are_right}
use Rattle.nqs_language_acts.proofs.Generated.{generated_sites_are_right}
use Rattle.nqs_language_acts.proofs.laws.sites_are_right.Goals as goal

pub returns : goal.returns
returns c = record { read = sites_are_right; generated = generated_sites_are_right }
