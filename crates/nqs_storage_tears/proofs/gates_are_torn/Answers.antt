use Rattle.nqs_storage_tears.proofs.TornGates.{torn_gate}
use Rattle.nqs_storage_tears.proofs.gates_are_torn.Goals as goal

pub returns : goal.returns
returns c = torn_gate
