use Rattle.std.proofs.Common.{◌≡◌, ◌<◌, true, true≢false, IfOk, refl, sym, subst}
use Rattle.nqs_rules.specs.World.{unseen}
use Rattle.nqs_node.specs.Nodes.{history_of}
use Rattle.nqs_net.specs.Followed.{StandsAfter}
use Rattle.nqs_net.specs.Turns.{starts_in}
use Rattle.nqs_net.proofs.Following.{same_turn, started_on}
use Rattle.nqs_net.proofs.Starting.{down_all}
use Rattle.nqs_net.proofs.Hosting.{idle_at}
use Rattle.nqs_net.proofs.turn.start_one.Goals as goal

pub start_step-requires : goal.start_step-requires
start_step-requires c = record { sound = c.in-Up.up.sound; running = c.in-Up.up.running }

pub returns-in-Down-clause-same : goal.returns-in-Down-clause-same
returns-in-Down-clause-same c = same_turn c.args.turn.now

pub returns-in-Up-clause-same : goal.returns-in-Up-clause-same
returns-in-Up-clause-same c = c.start_step.ensures.same

pub returns-in-Down-clause-fewer : goal.returns-in-Down-clause-fewer
returns-in-Down-clause-fewer c = λ more. absurd (true≢false (sym more))

pub returns-in-Down-clause-turn : goal.returns-in-Down-clause-turn
returns-in-Down-clause-turn c = λ w old at now.
    let turn = c.args.turn.now in
    let after = subst (λ s. StandsAfter turn.tear old s at.host) c.in-Down.is at.stands in record {
      ran = unseen w;
      turn = idle_at turn.me w at.host turn.tear turn.packets.now.items at.faces _ after turn.seen.now.items;
      goes_on = refl;
      last = λ e. down_all turn.me w at.host at.faces.there after.stands.down;
    }

pub returns-in-Up-clause-fewer : goal.returns-in-Up-clause-fewer
returns-in-Up-clause-fewer c = subst (λ s. IfOk c.start_step.result (λ r. r.0 ≡ true → starts_in r.1 < starts_in s)) (sym c.in-Up.is) c.start_step.ensures.fewer

pub returns-in-Up-clause-turn : goal.returns-in-Up-clause-turn
returns-in-Up-clause-turn c = λ w old at now.
    let after = subst (λ s. StandsAfter c.args.turn.now.tear old s at.host) c.in-Up.is at.stands in
    started_on c.args.turn.now c.start_step.new.turn old (history_of c.in-Up.up.node.value) w c.start_step.result after.follows
    (c.start_step.ensures.turn w at.host at.faces after.stands now)
