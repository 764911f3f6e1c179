use Rattle.std.proofs.Common.{◌≡◌, ◌∙◌, false, refl, sym, ap, subst, arith}
use Rattle.std.proofs.lemmas.Result.{err_from_is_err_and}
use Rattle.nqs_rules.specs.Measure.{starts_left}
use Rattle.nqs_rules.specs.Notes.{ByStart}
use Rattle.nqs_rules.specs.Start.{start}
use Rattle.nqs_rules.specs.World.{seen_of, steps, all_starts}
use Rattle.nqs_node.specs.Carried.{started}
use Rattle.nqs_node.specs.Nodes.{history_of, fails_of, content_of, is_stopped}
use Rattle.nqs_store.specs.Sound.{IsSoundHost}
use Rattle.nqs_net.specs.Followed.{IsTurned}
use Rattle.nqs_net.specs.Worlds.{IsUp}
use Rattle.nqs_net.specs.Lists.{GrowsByFront}
use Rattle.nqs_net.proofs.Fronts.{none_shown, shown_as, more_to_run}
use Rattle.nqs_net.proofs.Following.{same_turn, turn_stands, starts_follow}
use Rattle.nqs_net.proofs.Starting.{starting, next_all, steady_up}
use Rattle.nqs_net.proofs.turn.start_step.Goals as goal

pub start_event-requires : goal.start_event-requires
start_event-requires c = record {
  sound = subst (λ n. IsSoundHost (content_of n)) (sym c.deref_mut.ensures.value) c.requires.sound;
  running = subst (λ n. is_stopped n ≡ false) (sym c.deref_mut.ensures.value) c.requires.running;
}

pub returns-in_err-took : goal.returns-in_err-took
returns-in_err-took c =
    let p = err_from_is_err_and c.from_residual.result c.from_residual.ensures.1 in
    let seen = c.args.turn.now.seen.now.items in
    record { same = same_turn c.args.turn.now; turn = λ w host faces is now. rw p.1 (none_shown seen seen _ refl); fewer = rw p.1 tt }

pub carry-requires : goal.carry-requires
carry-requires c = record { sound = c.in_ok-took.ensures.sound; running = c.in_ok-took.ensures.running }

pub returns-in_err-slot : goal.returns-in_err-slot
returns-in_err-slot c =
    let p = err_from_is_err_and c.from_residual-in_err-slot.result c.from_residual-in_err-slot.ensures.1 in
    let node = c.deref_mut.result.now in
    let turn = c.args.turn.now in
    let me = turn.me in
    let before = turn.seen.now.items in
    let after = c.carry.new.turn.seen.now.items in
    record {
      same = c.in_err-slot.ensures.same;
      turn = λ w host faces is now. (let up = subst (λ n. IsUp n host) (sym c.deref_mut.ensures.value) is in
          let x = started w.now host.state in
          let ran = steps me host ByStart x w in
          let front : GrowsByFront before after (seen_of ran) =
          subst (λ n. GrowsByFront before after (seen_of (steps me host ByStart (started n host.state) w))) (sym now)
          (c.in_err-slot.ensures.turn w host ByStart (started turn.now host.state) (fails_of node) (history_of node) faces
          (c.in_ok-took.ensures.taken host up c.new-out.ensures.items)) in
          rw p.1 (shown_as before after _ _ (ap seen_of (sym (next_all me w host faces.there (steady_up c.args.node.value host is) is.up)))
          (more_to_run before after ran (all_starts me) front)));
      fewer = rw p.1 tt;
    }

pub returns-clause-same : goal.returns-clause-same
returns-clause-same c = c.in_ok-slot.ensures.same

pub returns-clause-fewer : goal.returns-clause-fewer
returns-clause-fewer c = λ more.
    let less = c.in_ok-took.ensures.fewer more in
    omega (arith, less.1, c.in_ok-slot.ensures.left less.0, ap (λ n. starts_left (content_of n)) c.deref_mut.ensures.value)

pub returns-clause-turn : goal.returns-clause-turn
returns-clause-turn c = λ w host faces is now.
    let node = c.deref_mut.result.now in
    let up = subst (λ n. IsUp n host) (sym c.deref_mut.ensures.value) is in
    let slot = c.in_ok-slot.slot in
    let turn = c.args.turn.now in
    let next = c.carry.new.turn in
    let me = turn.me in
    let tear = turn.tear in
    let packets = next.packets.now.items in
    let before = turn.seen.now.items in
    let after = next.seen.now.items in
    let ran = steps me host ByStart (started w.now host.state) w in
    let carried : IsTurned turn next (history_of node) w ran slot =
    subst (λ n. IsTurned turn next (history_of node) w (steps me host ByStart (started n host.state) w) slot) (sym now)
    (c.in_ok-slot.ensures.turn w host ByStart (started turn.now host.state) (fails_of node) (history_of node) faces
    (c.in_ok-took.ensures.taken host up c.new-out.ensures.items)) in
    let turned = subst (λ n. IsTurned turn next (history_of n) w ran slot) c.deref_mut.ensures.value carried in
    let old = history_of c.args.node.value in
    starts_follow me tear packets before after w tear old slot c.in_ok-took.more turned.at.stands.follows
    (starting me w host faces.there (steady_up c.args.node.value host is) is.up tear slot c.in_ok-took.took c.in_ok-took.more packets before after
    (turn_stands me tear packets before after w tear old slot ran turned)
    c.in_ok-slot.ensures.down
    (λ took none. ap (λ n. start n host.state) now ∙ c.in_ok-took.ensures.last host up took none))
