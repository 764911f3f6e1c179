use Rattle.nqs_snapshot.proofs.PartLaws.{peer_law, old_peer_law}
use Rattle.nqs_snapshot.proofs.Snapshots.{spells_one}
use Rattle.nqs_snapshot.proofs.laws.spells_one.Goals as goal

pub returns-clause-current : goal.returns-clause-current
returns-clause-current c = spells_one peer_law

pub returns-clause-old : goal.returns-clause-old
returns-clause-old c = spells_one old_peer_law
