use Rattle.nqs_host_laws.proofs.LiveReads.{step_reads, start_reads}
use Rattle.nqs_host_laws.proofs.laws.outputs_read_live_extents.Goals as goal

pub returns : goal.returns
returns c = record { step = λ e s order. step_reads s e; start = λ now s order. start_reads s now }
