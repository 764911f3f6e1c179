use Rattle.nqs_journal.proofs.Eithers as lemmas
use Rattle.nqs_journal.proofs.laws.one_form.Goals as goal

pub returns : goal.returns
returns c = lemmas.one_form
