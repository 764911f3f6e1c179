use Rattle.nqs_journal.proofs.Eithers as lemmas
use Rattle.nqs_journal.proofs.laws.one_reading_by_either.Goals as goal

pub returns : goal.returns
returns c = lemmas.one_reading
