use Rattle.nqs_laws.proofs.LaunchLaws.{run_launches}
use Rattle.nqs_laws.proofs.launches.no_launch_comes_twice.Goals as goal

pub returns : goal.returns
returns c = λ site acts few sane. (run_launches site few acts sane).distinct
