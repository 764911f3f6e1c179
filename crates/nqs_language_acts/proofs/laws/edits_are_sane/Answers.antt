use Rattle.nqs_language_acts.proofs.Edits.{edits_are_sane}
use Rattle.nqs_language_acts.proofs.laws.edits_are_sane.Goals as goal

pub returns : goal.returns
returns c = edits_are_sane
