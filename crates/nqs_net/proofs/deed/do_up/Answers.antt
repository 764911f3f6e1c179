use Rattle.std.proofs.Common.{sym, ap}
use Rattle.nqs_net.specs.Deeds.{done_up}
use Rattle.nqs_net.proofs.Following.{done_as}
use Rattle.nqs_net.proofs.Finishing.{stayed}
use Rattle.nqs_net.proofs.deed.do_up.Goals as goal

pub returns-in-Take-clause-turn : goal.returns-in-Take-clause-turn
returns-in-Take-clause-turn c = λ w host faces is now. done_as c.args.turn.now c.take_up.new.turn _ w _ _ c.take_up.result
    (ap (λ d. done_up d c.args.turn.now.me host w) (sym c.in-Take.is)) (c.take_up.ensures.turn w host faces is now)

pub returns-in-Finish-clause-turn : goal.returns-in-Finish-clause-turn
returns-in-Finish-clause-turn c = λ w host faces is now. done_as c.args.turn.now c.finish_up.new.turn _ w _ _ c.finish_up.result
    (ap (λ d. done_up d c.args.turn.now.me host w) (sym c.in-Finish.is)) (c.finish_up.ensures.turn w host faces is now)

pub returns-in-Crash-clause-turn : goal.returns-in-Crash-clause-turn
returns-in-Crash-clause-turn c = λ w host faces is now. done_as c.args.turn.now c.crash_up.new.turn _ w _ _ c.crash_up.result
    (ap (λ d. done_up d c.args.turn.now.me host w) (sym c.in-Crash.is)) (c.crash_up.ensures.turn w host faces is)

pub returns-in-Boot-clause-turn : goal.returns-in-Boot-clause-turn
returns-in-Boot-clause-turn c = λ w host faces is now. done_as c.args.turn.now c.stay.new.turn _ w _ _ c.stay.result
    (ap (λ d. done_up d c.args.turn.now.me host w) (sym c.in-Boot.is))
    (stayed c.args.turn.now c.stay.new.turn c.stay.result _ _ c.stay.ensures.packets c.stay.ensures.stays c.stay.ensures.seen c.stay.ensures.unseen w host
    faces is)
