use Rattle.nqs_laws.proofs.CheckpointLaws.{leaves_one, leaves_more}
use Rattle.nqs_laws.proofs.checkpoints.changes_are_recorded.Goals as goal

pub returns-clause-due : goal.returns-clause-due
returns-clause-due c = leaves_one

pub returns-clause-not_due : goal.returns-clause-not_due
returns-clause-not_due c = leaves_more
