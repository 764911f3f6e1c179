use Rattle.nqs_laws.proofs.TwoJournals.{turned_active, turned_resting, turned_bytes}
use Rattle.nqs_laws.proofs.journal_laws.checkpoints_turn_over.Goals as goal

pub returns-clause-active : goal.returns-clause-active
returns-clause-active c = turned_active

pub returns-clause-resting : goal.returns-clause-resting
returns-clause-resting c = turned_resting

pub returns-clause-bytes : goal.returns-clause-bytes
returns-clause-bytes c = turned_bytes
