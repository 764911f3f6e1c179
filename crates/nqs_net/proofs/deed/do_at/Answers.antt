use Rattle.std.proofs.Common.{if◌then◌else◌, sym, ap, subst}
use Rattle.nqs_net.specs.Deeds.{done_up, done_down, MayBoot}
use Rattle.nqs_net.specs.Followed.{disks_in}
use Rattle.nqs_net.specs.Worlds.{IsSlot, IsUp, IsDown}
use Rattle.nqs_net.proofs.Following.{done_as, done_from}
use Rattle.nqs_net.proofs.deed.do_at.Goals as goal

pub returns-in-Up-clause-turn : goal.returns-in-Up-clause-turn
returns-in-Up-clause-turn c = λ w host faces is now.
    let up : IsUp c.in-Up.up.node.value host = subst (λ s. IsSlot s host) c.in-Up.is is in
    done_from c.args.turn.now c.do_up.new.turn _ _ w _ c.do_up.result (sym (ap disks_in c.in-Up.is))
    (done_as c.args.turn.now c.do_up.new.turn _ w _ _ c.do_up.result
    (ap (λ b. if b then done_up c.args.deed.now c.args.turn.now.me host w else done_down c.args.deed.now c.args.turn.now.me host w) (sym up.up))
    (c.do_up.ensures.turn w host faces up now))

pub returns-in-Down-clause-turn : goal.returns-in-Down-clause-turn
returns-in-Down-clause-turn c = λ w host faces is now.
    let down : IsDown c.in-Down.down.disks.value host = subst (λ s. IsSlot s host) c.in-Down.is is in
    done_from c.args.turn.now c.do_down.new.turn _ _ w _ c.do_down.result (sym (ap disks_in c.in-Down.is))
    (done_as c.args.turn.now c.do_down.new.turn _ w _ _ c.do_down.result
    (ap (λ b. if b then done_up c.args.deed.now c.args.turn.now.me host w else done_down c.args.deed.now c.args.turn.now.me host w) (sym down.down))
    (c.do_down.ensures.turn w host faces down now))

pub do_down-requires : goal.do_down-requires
do_down-requires c = subst MayBoot c.in-Down.is c.requires.boots
