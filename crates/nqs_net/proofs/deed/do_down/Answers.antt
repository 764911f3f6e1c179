use Rattle.std.proofs.Common.{sym, ap}
use Rattle.nqs_net.specs.Deeds.{done_down}
use Rattle.nqs_net.proofs.Following.{done_as}
use Rattle.nqs_net.proofs.Finishing.{stayed}
use Rattle.nqs_net.proofs.Means.{not_booted}
use Rattle.nqs_net.proofs.deed.do_down.Goals as goal

pub returns-in-Boot-clause-turn : goal.returns-in-Boot-clause-turn
returns-in-Boot-clause-turn c = λ w host faces is now. done_as c.args.turn.now c.boot_down.new.turn _ w _ _ c.boot_down.result
    (ap (λ d. done_down d c.args.turn.now.me host w) (sym c.in-Boot.is)) (c.boot_down.ensures.turn w host faces is now)

pub returns-in_default-clause-turn : goal.returns-in_default-clause-turn
returns-in_default-clause-turn c = λ w host faces is now.
    done_as c.args.turn.now c.stay.new.turn _ w _ _ c.stay.result (sym (not_booted c.args.deed.now c.args.turn.now.me host w c.in_default.not-Boot))
    (stayed c.args.turn.now c.stay.new.turn c.stay.result _ _ c.stay.ensures.packets c.stay.ensures.stays c.stay.ensures.seen c.stay.ensures.unseen w host
    faces is)
