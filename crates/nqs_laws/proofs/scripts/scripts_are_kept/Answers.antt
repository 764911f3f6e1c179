use Rattle.nqs_laws.proofs.Scripted.{run_scripted}
use Rattle.nqs_laws.proofs.scripts.scripts_are_kept.Goals as goal

pub returns : goal.returns
returns c = λ site acts few sane. run_scripted site few acts sane
