use Rattle.nqs_laws.proofs.TwoJournals.{same_names}
use Rattle.nqs_laws.proofs.journal_laws.roots_name_one_journal.Goals as goal

pub returns : goal.returns
returns c = same_names
