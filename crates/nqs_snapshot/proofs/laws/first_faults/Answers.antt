use Rattle.nqs_snapshot.proofs.PartLaws.{peer_law, old_peer_law}
use Rattle.nqs_snapshot.proofs.SteadyParts.{peer_steady, old_peer_steady}
use Rattle.nqs_snapshot.proofs.FirstFaults.{first_faults}
use Rattle.nqs_snapshot.proofs.laws.first_faults.Goals as goal

pub returns-clause-current : goal.returns-clause-current
returns-clause-current c = first_faults peer_law peer_steady

pub returns-clause-old : goal.returns-clause-old
returns-clause-old c = first_faults old_peer_law old_peer_steady
