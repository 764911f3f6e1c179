use Rattle.nqs_laws.proofs.Always.{all_right}
use Rattle.nqs_laws.proofs.runs.hosts_stay_in_order.Goals as goal

pub returns : goal.returns
returns c = λ site acts few sane. all_right site acts few sane
