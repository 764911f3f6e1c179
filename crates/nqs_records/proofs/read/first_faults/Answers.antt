use Rattle.nqs_records.proofs.FirstFaults.{first_faults}
use Rattle.nqs_records.proofs.read.first_faults.Goals as goal

pub returns : goal.returns
returns c = first_faults
