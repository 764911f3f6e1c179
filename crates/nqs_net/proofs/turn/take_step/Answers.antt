use Rattle.std.proofs.Common.{◌≡◌, ◌⊎◌, inl, inr, Bool, IsTrue, true, false, length, refl, sym, subst}
use Rattle.std.proofs.lemmas.Result.{err_from_is_err_and}
use Rattle.nqs_rules.specs.Notes.{ByEvent}
use Rattle.nqs_rules.specs.Sane.{is_sane_event}
use Rattle.nqs_rules.specs.Step.{step}
use Rattle.nqs_rules.specs.World.{steps}
use Rattle.nqs_node.specs.Nodes.{history_of, fails_of, content_of, is_stopped}
use Rattle.nqs_store.specs.Sound.{IsSoundHost}
use Rattle.nqs_net.specs.Followed.{IsTurned}
use Rattle.nqs_net.specs.Worlds.{IsUp}
use Rattle.nqs_net.proofs.Fronts.{none_shown}
use Rattle.nqs_net.proofs.Following.{same_turn}
use Rattle.nqs_net.proofs.turn.take_step.Goals as goal

pub take_event-requires-clause-sound : goal.take_event-requires-clause-sound
take_event-requires-clause-sound c = subst (λ n. IsSoundHost (content_of n)) (sym c.deref_mut.ensures.value) c.requires.sound

pub take_event-requires-clause-running : goal.take_event-requires-clause-running
take_event-requires-clause-running c = subst (λ n. is_stopped n ≡ false) (sym c.deref_mut.ensures.value) c.requires.running

pub take_event-requires-clause-sane : goal.take_event-requires-clause-sane
take_event-requires-clause-sane c = subst (λ n. IsTrue (is_sane_event (length (content_of n).site) c.args.event.now))
    (sym c.deref_mut.ensures.value) c.requires.sane

pub returns-in_err-took : goal.returns-in_err-took
returns-in_err-took c =
    let p = err_from_is_err_and c.from_residual.result c.from_residual.ensures.1 in
    let seen = c.args.turn.now.seen.now.items in
    record {
      same = same_turn c.args.turn.now;
      turn = λ w host faces is. rw p.1 (none_shown seen seen _ refl);
      halts = λ host is. rw p.1 tt;
    }

pub carry-requires : goal.carry-requires
carry-requires c = record { sound = c.in_ok-took.ensures.sound; running = c.in_ok-took.ensures.running }

pub returns-in_err-slot : goal.returns-in_err-slot
returns-in_err-slot c =
    let p = err_from_is_err_and c.from_residual-in_err-slot.result c.from_residual-in_err-slot.ensures.1 in
    let node = c.deref_mut.result.now in
    record {
      same = c.in_err-slot.ensures.same;
      turn = λ w host faces is. (let up = subst (λ n. IsUp n host) (sym c.deref_mut.ensures.value) is in
          rw p.1 (c.in_err-slot.ensures.turn w host (ByEvent c.args.event.now) (step c.args.event.now host.state) (fails_of node) (history_of node) faces
          (c.in_ok-took.ensures.taken host up c.new-out.ensures.items)));
      halts = λ host is. rw p.1 tt;
    }

-- whether the step came to an end
by_end : {P Q : Type 0} (took : Bool) → (took ≡ true → P) → (took ≡ false → Q) → P ⊎ Q
by_end true ended broke = inl (ended refl)
by_end false ended broke = inr (broke refl)

pub returns-clause-same : goal.returns-clause-same
returns-clause-same c = c.in_ok-slot.ensures.same

pub returns-clause-halts : goal.returns-clause-halts
returns-clause-halts c = λ host is.
    let up = subst (λ n. IsUp n host) (sym c.deref_mut.ensures.value) is in
    by_end c.in_ok-took.took (c.in_ok-took.ensures.halts host up) c.in_ok-slot.ensures.down

pub returns-clause-turn : goal.returns-clause-turn
returns-clause-turn c = λ w host faces is.
    let node = c.deref_mut.result.now in
    let up = subst (λ n. IsUp n host) (sym c.deref_mut.ensures.value) is in
    let x = step c.args.event.now host.state in
    subst (λ n. IsTurned c.args.turn.now c.carry.new.turn (history_of n) w (steps c.args.turn.now.me host (ByEvent c.args.event.now) x w) c.in_ok-slot.slot)
    c.deref_mut.ensures.value
    (c.in_ok-slot.ensures.turn w host (ByEvent c.args.event.now) x (fails_of node) (history_of node) faces
    (c.in_ok-took.ensures.taken host up c.new-out.ensures.items))
