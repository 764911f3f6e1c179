use Rattle.std.proofs.Common.{◌∙◌, [], sym, ap}
use Rattle.nqs_types.specs.declared.event.Event.TheVariants as event
use Rattle.nqs_rules.specs.World.{takes_up}
use Rattle.nqs_node.specs.Nodes.{content_of}
use Rattle.nqs_net.specs.Least.{least_of}
use Rattle.nqs_net.proofs.Following.{done_as}
use Rattle.nqs_net.proofs.Finishing.{least_ends, none_ends, stayed}
use Rattle.nqs_net.proofs.deed.finish_up.Goals as goal

pub returns-in-Some-clause-turn : goal.returns-in-Some-clause-turn
returns-in-Some-clause-turn c = λ w host faces is now.
    done_as c.args.turn.now c.take_up.new.turn _ w _ _ c.take_up.result
    (ap (λ e. takes_up c.args.turn.now.me host e w) (c.ended-event.ensures ∙ ap (λ n. event.Ended n 0 c.in-Some.id c.in-Some.start 0 [] []) (sym now))
    ∙ sym (least_ends c.args.node.value host is c.args.turn.now.me w (c.in-Some.id, c.in-Some.start)
    (c.in-Some.ensures ∙ ap (λ s. least_of s.rows) (c.state.ensures ∙ ap content_of c.deref.ensures))))
    (c.take_up.ensures.turn w host faces is now)

pub returns-in-None-clause-turn : goal.returns-in-None-clause-turn
returns-in-None-clause-turn c = λ w host faces is now.
    done_as c.args.turn.now c.stay.new.turn _ w _ _ c.stay.result
    (sym (none_ends c.args.node.value host is c.args.turn.now.me w (c.in-None.ensures
    ∙ ap (λ s. least_of s.rows) (c.state.ensures ∙ ap content_of c.deref.ensures))))
    (stayed c.args.turn.now c.stay.new.turn c.stay.result _ _ c.stay.ensures.packets c.stay.ensures.stays c.stay.ensures.seen c.stay.ensures.unseen w host
    faces is)
