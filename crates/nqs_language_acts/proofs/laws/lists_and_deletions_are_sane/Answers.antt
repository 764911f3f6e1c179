use Rattle.nqs_language_acts.proofs.Questions.{lists_are_sane, deletions_are_sane}
use Rattle.nqs_language_acts.proofs.laws.lists_and_deletions_are_sane.Goals as goal

pub returns : goal.returns
returns c = record { lists = lists_are_sane; deletions = deletions_are_sane }
