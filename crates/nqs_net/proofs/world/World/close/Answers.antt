use Rattle.std.proofs.Common.{◌∙◌, ◌++◌, ◌∷◌, [], sym, subst}
use Rattle.std.proofs.lemmas.List.{map-id}
use Rattle.std.proofs.lemmas.Iterator.Adapters.{YieldsList-from_vec}
use Rattle.std.proofs.lemmas.Iterator.Consumers.{YieldsList-end}
use Rattle.nqs_net.proofs.Leaving.{LeaveEach, leave_more, all_left}
use Rattle.nqs_net.proofs.world.World.close.Goals as goal

pub loop-slot-preserved : goal.loop-slot-preserved
loop-slot-preserved c =
    subst (λ left. LeaveEach (c.loop-slot.yielded ++ c.in-Some.slot ∷ []) left) (sym c.in_ok-push.ensures.items)
    (leave_more c.loop-slot.yielded c.loop-slot.left.items c.in-Some.slot c.left_by.result c.loop-slot.invariant c.left_by.ensures)

pub returns : goal.returns
returns c = λ network world.
    let slots = c.args.self.slots in
    let gives = c.into_iter-slot-iterator.ensures.into_iter_gives in
    let seen = YieldsList-end (YieldsList-from_vec slots.items gives.0 (gives.1 ∙ slots.ok.0)) c.loop-slot.yielded c.loop-slot.slot-iterator
    c.loop-slot.yielded_by c.next.result c.next.new.self c.in-None.is c.next.ensures.steps in
    all_left slots.items c.args.self.tears.items network.hosts c.loop-slot.left.items
    (subst (λ slots. LeaveEach slots c.loop-slot.left.items) (sym (map-id c.loop-slot.yielded) ∙ seen.0) c.loop-slot.invariant) world.hosts
