use Rattle.nqs_snapshot.proofs.PartLaws.{peer_law, old_peer_law}
use Rattle.nqs_snapshot.proofs.Snapshots.{reads_the_spelling}
use Rattle.nqs_snapshot.proofs.laws.reads_the_spelling.Goals as goal

pub returns-clause-current : goal.returns-clause-current
returns-clause-current c = reads_the_spelling peer_law

pub returns-clause-old : goal.returns-clause-old
returns-clause-old c = reads_the_spelling old_peer_law
