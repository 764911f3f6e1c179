use Rattle.std.proofs.Common.{◌∙◌, refl, sym, ap, subst}
use Rattle.nqs_rules.specs.World.{Ran, halts}
use Rattle.nqs_node.specs.Nodes.{history_of}
use Rattle.nqs_net.specs.Followed.{StandsAfter, IsTurned}
use Rattle.nqs_net.specs.declared.slot.Slot.TheVariants.{Down}
use Rattle.nqs_net.proofs.Following.{same_turn, done_on, done_as}
use Rattle.nqs_net.proofs.Hosting.{idle_at, up_halts, down_halts}
use Rattle.nqs_net.proofs.host.halt.Goals as goal

pub returns-then-not-stops : goal.returns-then-not-stops
returns-then-not-stops c = let turn = c.args.turn.now in record {
  same = same_turn turn;
  packets = refl;
  turn = λ w old at.
      subst (λ b. IsTurned turn turn old w (halts b turn.me w) c.args.slot) (sym c.if-not-stops.true)
      (idle_at turn.me w at.host turn.tear turn.packets.now.items at.faces (StandsAfter turn.tear old c.args.slot) at.stands turn.seen.now.items);
}

pub returns-in-Down : goal.returns-in-Down
returns-in-Down c = let turn = c.args.turn.now in record {
  same = same_turn turn;
  packets = refl;
  turn = λ w old at.
      let packets = turn.packets.now.items in
      let after = subst (λ s. StandsAfter turn.tear old s at.host) c.in-Down.is at.stands in
      let idle = ap (λ b. halts b turn.me w) c.if-not-stops.false ∙ down_halts turn.me w at.host turn.tear packets at.faces after.stands.down in
      subst (λ (r : Ran). IsTurned turn turn old w r (Down c.in-Down.down)) (sym idle)
      (idle_at turn.me w at.host turn.tear packets at.faces (StandsAfter turn.tear old (Down c.in-Down.down)) after turn.seen.now.items);
}

pub returns-in-Up : goal.returns-in-Up
returns-in-Up c = let turn = c.args.turn.now in record {
  same = c.crash_up.ensures.same;
  packets = c.crash_up.ensures.packets;
  turn = λ w old at.
      let after = subst (λ s. StandsAfter turn.tear old s at.host) c.in-Up.is at.stands in
      let mid = history_of c.in-Up.up.node.value in
      let stop = ap (λ b. halts b turn.me w) c.if-not-stops.false
      ∙ up_halts turn.me w at.host turn.tear turn.packets.now.items at.faces after.stands.up in
      done_as turn c.crash_up.new.turn old w _ _ c.crash_up.result (sym stop)
      (done_on turn c.crash_up.new.turn old mid w _ c.crash_up.result after.follows (c.crash_up.ensures.turn w at.host at.faces after.stands));
}
