use Rattle.std.proofs.Common.{◌≡◌, ◌∙◌, true≢false, refl, sym, ap, subst}
use Rattle.std.proofs.lemmas.Result.{err_from_is_err_and}
use Rattle.nqs_types.specs.declared.world.Which.{Which}
use Rattle.nqs_rules.specs.World.{steps}
use Rattle.nqs_store.specs.Disks.{disk_at}
use Rattle.nqs_node.specs.Nodes.{disk_of, history_of}
use Rattle.nqs_net.specs.Turns.{IsTaken}
use Rattle.nqs_net.specs.Worlds.{active_in}
use Rattle.nqs_net.proofs.Fronts.{none_shown, shown_as}
use Rattle.nqs_net.proofs.Following.{goes, follow_closed, turn_follows, turn_packets}
use Rattle.nqs_net.proofs.Turning.{took_turn, took_seen, closed_turn, down_stopped}
use Rattle.nqs_net.proofs.turn.carry.Goals as goal

pub returns-in_err-emit-clause-same : goal.returns-in_err-emit-clause-same
returns-in_err-emit-clause-same c = c.in_err-emit.ensures.same

pub returns-then-took-clause-same : goal.returns-then-took-clause-same
returns-then-took-clause-same c = c.in_ok-emit.ensures.same

pub returns-in_err-slot-clause-same : goal.returns-in_err-slot-clause-same
returns-in_err-slot-clause-same c = c.in_err-slot.ensures.same

pub returns-clause-same : goal.returns-clause-same
returns-clause-same c = c.in_ok-slot.ensures.same

pub returns-in_err-emit-clause-turn : goal.returns-in_err-emit-clause-turn
returns-in_err-emit-clause-turn c = λ w host why x fails old faces taken.
    let p = err_from_is_err_and c.from_residual.result c.from_residual.ensures.1 in
    let took = subst (IsTaken host x fails old c.args.node.value c.args.out.items) c.if-took.true taken in
    let turn = c.args.turn.now in
    rw p.1 (shown_as turn.seen.now.items c.emit.new.turn.seen.now.items _ _ (took_seen turn.me w host turn.tear turn.packets.now.items faces why x fails old
    c.args.node.value c.args.out.items took c.requires.sound) c.in_err-emit.ensures.front)

pub returns-in_err-emit-clause-down : goal.returns-in_err-emit-clause-down
returns-in_err-emit-clause-down c = λ broke.
    let p = err_from_is_err_and c.from_residual.result c.from_residual.ensures.1 in
    rw p.1 tt

pub returns-in_err-emit-clause-left : goal.returns-in_err-emit-clause-left
returns-in_err-emit-clause-left c = λ took.
    let p = err_from_is_err_and c.from_residual.result c.from_residual.ensures.1 in
    rw p.1 tt

pub returns-then-took-clause-left : goal.returns-then-took-clause-left
returns-then-took-clause-left c = λ took. refl

pub returns-in_err-slot-clause-left : goal.returns-in_err-slot-clause-left
returns-in_err-slot-clause-left c = λ took. absurd (true≢false (sym took ∙ c.if-took.false))

pub returns-clause-left : goal.returns-clause-left
returns-clause-left c = λ took. absurd (true≢false (sym took ∙ c.if-took.false))

pub invariant_of-result : goal.invariant_of-result
invariant_of-result c = record { sound = c.requires.sound; running = c.requires.running c.if-took.true }

pub returns-then-took-clause-turn : goal.returns-then-took-clause-turn
returns-then-took-clause-turn c = λ w host why x fails old faces taken.
    let node = c.args.node.value in
    let took = subst (IsTaken host x fails old node c.args.out.items) c.if-took.true taken in
    let turn = c.args.turn.now in
    turn_follows turn.me turn.tear _ turn.seen.now.items _ w turn.tear old _ _
    (goes (active_in host) old (history_of node) x.change host.state took.moments)
    (took_turn turn.me w host turn.tear turn.packets.now.items faces why x fails old node c.args.out.items took c.requires.sound _ turn.seen.now.items _
    c.in_ok-emit.ensures.packets c.in_ok-emit.ensures.seen)

pub returns-then-took-clause-down : goal.returns-then-took-clause-down
returns-then-took-clause-down c = λ broke. absurd (true≢false (sym c.if-took.true ∙ broke))

pub returns-in_err-slot-clause-turn : goal.returns-in_err-slot-clause-turn
returns-in_err-slot-clause-turn c = λ w host why x fails old faces taken.
    let p = err_from_is_err_and c.from_residual-in_err-slot.result c.from_residual-in_err-slot.ensures.1 in
    rw p.1 (none_shown c.args.turn.now.seen.now.items c.stop.new.turn.seen.now.items _ c.in_err-slot.ensures.unseen)

pub returns-in_err-slot-clause-down : goal.returns-in_err-slot-clause-down
returns-in_err-slot-clause-down c = λ broke.
    let p = err_from_is_err_and c.from_residual-in_err-slot.result c.from_residual-in_err-slot.ensures.1 in
    rw p.1 tt

pub returns-clause-turn : goal.returns-clause-turn
returns-clause-turn c = λ w host why x fails old faces taken.
    let node = c.args.node.value in
    let broke = subst (IsTaken host x fails old node c.args.out.items) c.if-took.false taken in
    let slot = c.in_ok-slot.slot in
    let disks = c.close-disks.result in
    let closed : (which : Which) → disk_at which disks ≡ disk_of which node = λ which. c.close-disks.ensures which ∙ ap (disk_of which) c.into_inner.ensures in
    let turn = c.args.turn.now in
    turn_packets turn c.stop.new.turn old w (steps turn.me host why x w) slot c.in_ok-slot.ensures.packets
    (turn_follows turn.me turn.tear turn.packets.now.items turn.seen.now.items _ w turn.tear old slot _
    (follow_closed turn.tear old node disks slot closed (goes (active_in host) old
    (history_of node) x.change host.state broke.moments) c.in_ok-slot.ensures.stopped)
    (closed_turn turn.me w host turn.tear turn.packets.now.items faces why x fails old node c.args.out.items broke disks closed slot turn.seen.now.items _
    c.in_ok-slot.ensures.seen c.in_ok-slot.ensures.stopped c.in_ok-slot.ensures.fed))

pub returns-clause-down : goal.returns-clause-down
returns-clause-down c = λ broke. down_stopped c.args.turn.now.tear _ _ c.in_ok-slot.ensures.stopped
