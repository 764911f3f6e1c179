use Rattle.nqs_laws.proofs.StartLaws.{all_told}
use Rattle.nqs_laws.proofs.starts.boots_tell_what_ran.Goals as goal

pub returns : goal.returns
returns c = λ site acts few sane. all_told site acts few sane
