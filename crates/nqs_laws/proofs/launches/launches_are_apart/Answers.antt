use Rattle.nqs_laws.proofs.LaunchLaws.{run_launches}
use Rattle.nqs_laws.proofs.launches.launches_are_apart.Goals as goal

pub returns : goal.returns
returns c = λ site acts few sane x. (run_launches site few acts sane).apart x
