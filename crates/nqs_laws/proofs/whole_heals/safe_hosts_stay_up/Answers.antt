use Rattle.nqs_laws.proofs.Others.{tick_safe, arrival_safe}
use Rattle.nqs_laws.proofs.whole_heals.safe_hosts_stay_up.Goals as goal

pub returns : goal.returns
returns c = record { tick = λ w h other k. tick_safe h w other k; arrival = λ w h k safe. arrival_safe h w k safe }
