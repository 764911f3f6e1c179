use Rattle.nqs_laws.proofs.Others.{leaves_others}
use Rattle.nqs_laws.proofs.whole_heals.events_leave_other_hosts.Goals as goal

pub returns : goal.returns
returns c = λ act w h apart. leaves_others act w h apart
