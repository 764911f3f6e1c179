use Rattle.nqs_journal.proofs.Eithers as lemmas
use Rattle.nqs_journal.proofs.laws.no_fault_by_either.Goals as goal

pub returns : goal.returns
returns c = lemmas.no_fault
