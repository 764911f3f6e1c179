use Rattle.std.proofs.Common.{◌∙◌, Ok, Err, refl, sym, ap}
use Rattle.std.proofs.lemmas.Result.{err_from_is_err_and}
use Rattle.nqs_rules.specs.World.{seen_of, unseen, then_ran, all_starts}
use Rattle.nqs_net.specs.Followed.{StandsAfter}
use Rattle.nqs_net.proofs.Following.{same_turn, same_on, next_then}
use Rattle.nqs_net.proofs.Fronts.{shown_as, run_before}
use Rattle.nqs_net.proofs.Starting.{both_turn, both_goes, both_last}
use Rattle.nqs_net.proofs.Hosting.{idle_at}
use Rattle.nqs_net.proofs.turn.start_all.Goals as goal

pub loop-more-init : goal.loop-more-init
loop-more-init c = let turn = c.args.turn.now in record {
  same = same_turn turn;
  started = λ w old at now. (
    unseen w,
    idle_at turn.me w at.host turn.tear turn.packets.now.items at.faces
        (StandsAfter turn.tear old c.args.first) at.stands turn.seen.now.items,
    refl,
  );
}

pub returns-in_err-more-clause-same : goal.returns-in_err-more-clause-same
returns-in_err-more-clause-same c =
    same_on c.args.turn.now c.loop-more.turn c.start_one.new.turn c.loop-more.invariant.same c.in_err-more.ensures.same

pub returns-in_err-more-clause-turn : goal.returns-in_err-more-clause-turn
returns-in_err-more-clause-turn c = λ w old at now.
    let p = err_from_is_err_and c.from_residual.result c.from_residual.ensures.1 in
    let turn = c.args.turn.now in
    let before = turn.seen.now.items in
    let mid = c.loop-more.turn in
    let after = c.start_one.new.turn in
    let v = c.loop-more.invariant.started w old at now in
    let rest = next_then turn mid after c.loop-more.slot (Err c.in_err-more.field-0.0) c.loop-more.invariant.same c.in_err-more.ensures.turn v.0.world old
    v.1.at (v.1.rest.now ∙ now) in
    rw p.1 (shown_as before after.seen.now.items _ _ (ap seen_of (sym v.2))
    (run_before before after.seen.now.items v.0 (all_starts turn.me) mid.seen.now.items v.1.seen rest))

pub returns-then-not-more-clause-same : goal.returns-then-not-more-clause-same
returns-then-not-more-clause-same c =
    same_on c.args.turn.now c.loop-more.turn c.start_one.new.turn c.loop-more.invariant.same c.in_ok-more.ensures.same

pub returns-then-not-more-clause-turn : goal.returns-then-not-more-clause-turn
returns-then-not-more-clause-turn c = λ w old at now.
    let turn = c.args.turn.now in
    let v = c.loop-more.invariant.started w old at now in
    let s = next_then turn c.loop-more.turn c.start_one.new.turn c.loop-more.slot (Ok (c.in_ok-more.more, c.in_ok-more.next)) c.loop-more.invariant.same
    c.in_ok-more.ensures.turn v.0.world old v.1.at (v.1.rest.now ∙ now) in
    both_last turn.me (StandsAfter turn.tear old c.loop-more.slot) (StandsAfter turn.tear old c.in_ok-more.next) turn.tear _ _ turn.seen.now.items _ _
    w v.0 v.1 v.2 c.in_ok-more.more s c.if-not-more.true

pub loop-more-preserved : goal.loop-more-preserved
loop-more-preserved c = let turn = c.args.turn.now in record {
  same = same_on turn c.loop-more.turn c.start_one.new.turn c.loop-more.invariant.same c.in_ok-more.ensures.same;
  started = λ w old at now.
      let v = c.loop-more.invariant.started w old at now in
      let s = next_then turn c.loop-more.turn c.start_one.new.turn c.loop-more.slot (Ok (c.in_ok-more.more, c.in_ok-more.next)) c.loop-more.invariant.same
      c.in_ok-more.ensures.turn v.0.world old v.1.at (v.1.rest.now ∙ now) in (
        then_ran v.0 (λ _. s.ran),
        both_turn turn.me (StandsAfter turn.tear old c.loop-more.slot)
            (StandsAfter turn.tear old c.in_ok-more.next) turn.tear _ _ turn.seen.now.items _
            _ w v.0 v.1 v.2 c.in_ok-more.more s,
        both_goes turn.me (StandsAfter turn.tear old c.loop-more.slot)
            (StandsAfter turn.tear old c.in_ok-more.next) turn.tear _ _ turn.seen.now.items _
            _ w v.0 v.1 v.2 c.in_ok-more.more s,
      );
}

pub loop-more-smaller : goal.loop-more-smaller
loop-more-smaller c = c.in_ok-more.ensures.fewer c.if-not-more.false
