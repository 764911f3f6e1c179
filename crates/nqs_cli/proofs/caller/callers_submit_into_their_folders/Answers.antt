use Rattle.nqs_cli.proofs.Callers.{asks_in_folder}
use Rattle.nqs_cli.proofs.caller.callers_submit_into_their_folders.Goals as goal

pub returns : goal.returns
returns c = asks_in_folder
