use Rattle.nqs_store.proofs.TellsNow.{told_now}
use Rattle.nqs_store.proofs.laws.what_is_told_is_on_the_disks.Goals as goal

pub returns : goal.returns
returns g c = λ yes host tells. told_now c.args.store.now host tells yes
