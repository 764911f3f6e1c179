use Rattle.std.proofs.Common.{◌≡◌, ◌⊎◌, inl, inr, Bool, List, Ok, Err, ◌∙◌, ap, subst}
use Rattle.std.proofs.lemmas.Result.{err_from_is_err_and}
use Rattle.nqs_types.specs.declared.event.Event.{Event}
use Rattle.nqs_types.specs.declared.ids.HostId.{HostId}
use Rattle.nqs_types.specs.declared.message.Message.{Message}
use Rattle.nqs_types.specs.declared.world.Which.{Which}
use Rattle.nqs_base.specs.declared.tear.Tear.{Tear}
use Rattle.nqs_outside.specs.History.{History}
use Rattle.nqs_rules.specs.Notes.{ByEvent}
use Rattle.nqs_rules.specs.Step.{step}
use Rattle.nqs_rules.specs.World.{Host, Ran, seen_of, World as Network, steps, all_starts, halts, then_ran}
use Rattle.nqs_node.specs.Nodes.{history_of}
use Rattle.nqs_net.specs.Followed.{StandsAfter, IsTurned}
use Rattle.nqs_net.specs.Turns.{IsAt, IsDownSlot}
use Rattle.nqs_net.specs.Lists.{GrowsByFront}
use Rattle.nqs_net.specs.declared.slot.Slot.{Slot}
use Rattle.nqs_net.specs.declared.slot.Slot.TheVariants.{Up, Down}
use Rattle.nqs_net.proofs.Following.{same_on, later, starts_then, halts_then}
use Rattle.nqs_net.proofs.Fronts.{more_to_run, run_before}
use Rattle.nqs_net.proofs.Hosting.{down_either}
use Rattle.nqs_net.proofs.Turning.{turn_after}
use Rattle.nqs_net.proofs.host.take_up.Goals as goal

pub take_step-requires-clause-sound : goal.take_step-requires-clause-sound
take_step-requires-clause-sound c = c.requires.sound

pub take_step-requires-clause-running : goal.take_step-requires-clause-running
take_step-requires-clause-running c = c.requires.running

pub take_step-requires-clause-sane : goal.take_step-requires-clause-sane
take_step-requires-clause-sane c = c.requires.sane

-- the step, and the starts after it
module _ (me : HostId) (host : Host) (event : Event) (w : Network) where
  abbrev stepped : Ran
  stepped = steps me host (ByEvent event) (step event host.state) w

  abbrev begun : Ran
  begun = then_ran stepped (all_starts me)

  -- it halts as its step does, or the step has stopped it
  as_meant : (tear : Tear) (old : Which → History) (packets : List Message) (slot : Slot) (b : Bool)
      → IsAt me (StandsAfter tear old slot) tear packets stepped.world → (b ≡ (step event host.state).halts) ⊎ IsDownSlot slot
      → halts b me begun.world ≡ halts (step event host.state).halts me begun.world
  as_meant tear old packets slot b at (inl same) = ap (λ d. halts d me begun.world) same
  as_meant tear old packets (Up up) b at (inr down) = absurd down
  as_meant tear old packets (Down left) b at (inr down) =
      down_either me stepped.world at.host tear packets at.faces at.stands.stands.down b (step event host.state).halts

pub returns-in_err-halts : goal.returns-in_err-halts
returns-in_err-halts c =
    let p = err_from_is_err_and c.from_residual.result c.from_residual.ensures.1 in
    let turn = c.args.turn.now in
    let me = turn.me in
    let event = c.args.event.now in
    let before = turn.seen.now.items in
    let after = c.take_step.new.turn.seen.now.items in
    record {
      same = c.in_err-halts.ensures.same;
      turn = λ w host faces is now.
          rw p.1 (more_to_run before after (begun me host event w) (halts (step event host.state).halts me)
          (more_to_run before after (stepped me host event w) (all_starts me) (c.in_err-halts.ensures.turn w host faces is)));
    }

pub returns-in_err-begun-clause-same : goal.returns-in_err-begun-clause-same
returns-in_err-begun-clause-same c =
    same_on c.args.turn.now c.take_step.new.turn c.start_all.new.turn c.in_ok-halts.ensures.same c.in_err-begun.ensures.same

pub returns-in_err-begun-clause-turn : goal.returns-in_err-begun-clause-turn
returns-in_err-begun-clause-turn c = λ w host faces is now.
    let p = err_from_is_err_and c.from_residual-in_err-begun.result c.from_residual-in_err-begun.ensures.1 in
    let turn = c.args.turn.now in
    let mid = c.take_step.new.turn in
    let after = c.start_all.new.turn in
    let me = turn.me in
    let event = c.args.event.now in
    let did = stepped me host event w in
    let one = c.in_ok-halts.ensures.turn w host faces is in
    let two = starts_then turn mid after c.in_ok-halts.taken (Err c.in_err-begun.field-0.0) c.in_ok-halts.ensures.same c.in_err-begun.ensures.turn
    did.world (history_of c.args.node.value) one.at (one.rest.now ∙ now) in
    rw p.1 (more_to_run turn.seen.now.items after.seen.now.items (begun me host event w) (halts (step event host.state).halts me)
    (run_before turn.seen.now.items after.seen.now.items did (all_starts me) mid.seen.now.items one.seen two))

pub returns-in_err-left-clause-same : goal.returns-in_err-left-clause-same
returns-in_err-left-clause-same c = same_on c.args.turn.now c.start_all.new.turn c.halt.new.turn
    (same_on c.args.turn.now c.take_step.new.turn c.start_all.new.turn c.in_ok-halts.ensures.same c.in_ok-begun.ensures.same) c.in_err-left.ensures.same

pub returns-in_err-left-clause-turn : goal.returns-in_err-left-clause-turn
returns-in_err-left-clause-turn c = λ w host faces is now.
    let p = err_from_is_err_and c.from_residual-in_err-left.result c.from_residual-in_err-left.ensures.1 in
    let turn = c.args.turn.now in
    let mid = c.take_step.new.turn in
    let next = c.start_all.new.turn in
    let after = c.halt.new.turn in
    let me = turn.me in
    let event = c.args.event.now in
    let old = history_of c.args.node.value in
    let did = stepped me host event w in
    let all = begun me host event w in
    let one = c.in_ok-halts.ensures.turn w host faces is in
    let two = starts_then turn mid next c.in_ok-halts.taken (Ok c.in_ok-begun.begun) c.in_ok-halts.ensures.same c.in_ok-begun.ensures.turn
    did.world old one.at (one.rest.now ∙ now) in
    let both = turn_after me _ _ turn.tear turn.tear _ _ _ _ _ w did (all_starts me) one two in
    let meant = as_meant me host event w turn.tear old _ c.in_ok-halts.taken c.in_ok-halts.halts one.at (c.in_ok-halts.ensures.halts host is) in
    let same = same_on turn mid next c.in_ok-halts.ensures.same c.in_ok-begun.ensures.same in
    let three = halts_then turn next after c.in_ok-halts.halts c.in_ok-begun.begun (Err c.in_err-left.field-0.0) same c.in_err-left.ensures.turn
    all.world old both.at in
    let front = subst (λ (r : Ran). GrowsByFront next.seen.now.items after.seen.now.items (seen_of r)) meant three in
    rw p.1 (run_before turn.seen.now.items after.seen.now.items all (halts (step event host.state).halts me) next.seen.now.items both.seen front)

pub returns-clause-same : goal.returns-clause-same
returns-clause-same c = same_on c.args.turn.now c.start_all.new.turn c.halt.new.turn
    (same_on c.args.turn.now c.take_step.new.turn c.start_all.new.turn c.in_ok-halts.ensures.same c.in_ok-begun.ensures.same) c.in_ok-left.ensures.same

pub returns-clause-turn : goal.returns-clause-turn
returns-clause-turn c = λ w host faces is now.
    let turn = c.args.turn.now in
    let mid = c.take_step.new.turn in
    let next = c.start_all.new.turn in
    let after = c.halt.new.turn in
    let me = turn.me in
    let event = c.args.event.now in
    let old = history_of c.args.node.value in
    let did = stepped me host event w in
    let all = begun me host event w in
    let one = c.in_ok-halts.ensures.turn w host faces is in
    let two = starts_then turn mid next c.in_ok-halts.taken (Ok c.in_ok-begun.begun) c.in_ok-halts.ensures.same c.in_ok-begun.ensures.turn
    did.world old one.at (one.rest.now ∙ now) in
    let both = turn_after me _ _ turn.tear turn.tear _ _ _ _ _ w did (all_starts me) one two in
    let meant = as_meant me host event w turn.tear old _ c.in_ok-halts.taken c.in_ok-halts.halts one.at (c.in_ok-halts.ensures.halts host is) in
    let same = same_on turn mid next c.in_ok-halts.ensures.same c.in_ok-begun.ensures.same in
    let three = halts_then turn next after c.in_ok-halts.halts c.in_ok-begun.begun (Ok c.in_ok-left.left) same c.in_ok-left.ensures.turn
    all.world old both.at in
    turn_after me _ _ turn.tear turn.tear _ _ _ _ _ w all (halts (step event host.state).halts me) both
    (subst (λ (r : Ran). IsTurned (later turn next) after old all.world r c.in_ok-left.left) meant three)
