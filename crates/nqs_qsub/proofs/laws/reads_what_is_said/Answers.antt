use Rattle.nqs_qsub.proofs.Said.{reads_said, finds_fault, says_or_faults, never_both, one_fault}
use Rattle.nqs_qsub.proofs.laws.reads_what_is_said.Goals as goal

pub returns : goal.returns
returns c = record { said = reads_said; faults = finds_fault; one = says_or_faults; never_both = never_both; one_fault = one_fault }
