use Rattle.nqs_storage_tears.proofs.TornRoots.{write_turns, torn_turning}
use Rattle.nqs_storage_tears.proofs.roots_are_torn.Goals as goal

pub returns-clause-written : goal.returns-clause-written
returns-clause-written c = write_turns

pub returns-clause-torn : goal.returns-clause-torn
returns-clause-torn c = torn_turning
