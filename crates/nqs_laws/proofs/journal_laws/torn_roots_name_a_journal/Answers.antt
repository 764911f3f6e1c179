use Rattle.nqs_laws.proofs.TwoJournals.{torn_either, torn_bytes}
use Rattle.nqs_laws.proofs.journal_laws.torn_roots_name_a_journal.Goals as goal

pub returns-clause-either : goal.returns-clause-either
returns-clause-either c = torn_either

pub returns-clause-bytes : goal.returns-clause-bytes
returns-clause-bytes c = torn_bytes
