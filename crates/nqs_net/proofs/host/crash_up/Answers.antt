use Rattle.std.proofs.Common.{◌≡◌, ◌∙◌, refl, ap}
use Rattle.std.proofs.lemmas.Result.{err_from_is_err_and}
use Rattle.nqs_types.specs.declared.world.Which.{Which}
use Rattle.nqs_rules.specs.World.{crashes_up}
use Rattle.nqs_store.specs.Disks.{disk_at}
use Rattle.nqs_node.specs.Nodes.{disk_of, history_of}
use Rattle.nqs_net.proofs.Fronts.{none_shown}
use Rattle.nqs_net.proofs.Following.{still, follow_closed, turn_follows, turn_packets}
use Rattle.nqs_net.proofs.Hosting.{crash_turn}
use Rattle.nqs_net.proofs.host.crash_up.Goals as goal

pub returns-in_err-slot : goal.returns-in_err-slot
returns-in_err-slot c =
    let p = err_from_is_err_and c.from_residual.result c.from_residual.ensures.1 in
    record {
      same = c.in_err-slot.ensures.same;
      packets = c.in_err-slot.ensures.packets;
      turn = λ w host faces is. rw p.1 (none_shown c.args.turn.now.seen.now.items c.stop.new.turn.seen.now.items _ c.in_err-slot.ensures.unseen);
    }

pub returns-clause-same : goal.returns-clause-same
returns-clause-same c = c.in_ok-slot.ensures.same

pub returns-clause-packets : goal.returns-clause-packets
returns-clause-packets c = c.in_ok-slot.ensures.packets

pub returns-clause-turn : goal.returns-clause-turn
returns-clause-turn c = λ w host faces is.
    let turn = c.args.turn.now in
    let node = c.args.node.value in
    let slot = c.in_ok-slot.slot in
    let disks = c.close-disks.result in
    let old = history_of node in
    let closed : (which : Which) → disk_at which disks ≡ disk_of which node = λ which. c.close-disks.ensures which ∙ ap (disk_of which) c.into_inner.ensures in
    turn_packets turn c.stop.new.turn old w (crashes_up turn.me host w) slot c.in_ok-slot.ensures.packets
    (turn_follows turn.me turn.tear turn.packets.now.items turn.seen.now.items _ w turn.tear old slot _
    (follow_closed turn.tear old node disks slot closed (still old old (λ which. refl)) c.in_ok-slot.ensures.stopped)
    (crash_turn turn.me w host turn.tear turn.packets.now.items faces node is disks closed slot turn.seen.now.items _ c.in_ok-slot.ensures.seen
    c.in_ok-slot.ensures.stopped))
