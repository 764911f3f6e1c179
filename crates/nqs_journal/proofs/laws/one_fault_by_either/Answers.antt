use Rattle.nqs_journal.proofs.OneFault as lemmas
use Rattle.nqs_journal.proofs.laws.one_fault_by_either.Goals as goal

pub returns : goal.returns
returns c = lemmas.one_fault
