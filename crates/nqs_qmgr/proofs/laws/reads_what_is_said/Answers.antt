use Rattle.nqs_qmgr.proofs.Shapes.{reads_said}
use Rattle.nqs_qmgr.proofs.Faulted.{finds_fault, says_or_faults, never_both, one_command, one_fault}
use Rattle.nqs_qmgr.proofs.laws.reads_what_is_said.Goals as goal

pub returns : goal.returns
returns c =
    record { said = reads_said; faults = finds_fault; one = says_or_faults; never_both = never_both; one_command = one_command; one_fault = one_fault }
