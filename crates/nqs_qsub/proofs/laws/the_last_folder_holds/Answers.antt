use Rattle.nqs_qsub.proofs.Placed.{last_folder_holds}
use Rattle.nqs_qsub.proofs.laws.the_last_folder_holds.Goals as goal

pub returns : goal.returns
returns c = last_folder_holds
