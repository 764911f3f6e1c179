use Rattle.nqs_qmgr.proofs.Decided.{no_command_begins_so}
use Rattle.nqs_qmgr.proofs.laws.no_command_begins_with_a_fault.Goals as goal

pub returns : goal.returns
returns c = no_command_begins_so
