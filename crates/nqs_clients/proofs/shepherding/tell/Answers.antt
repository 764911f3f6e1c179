use Rattle.std.proofs.Common.{Bool, Err, refl, ◌∙◌, arith}
use Rattle.nqs_outside.specs.Asked.{packet}
use Rattle.nqs_outside.specs.declared.wire.Address.TheVariants.{Host}
use Rattle.nqs_clients.specs.Shepherd.{acknowledges}
use Rattle.nqs_clients.proofs.Waiting.{waiting_first, waiting_more, waits_told, waits_stopped, waits_none, stops_then, ends_with}
use Rattle.nqs_clients.proofs.shepherding.tell.Goals as goal

pub loop-turn-init : goal.loop-turn-init
loop-turn-init g c = record {
  waiting = waiting_first (acknowledges c.args.host c.args.id c.args.start) (packet (Host c.args.host) c.args.told.now) (g.W.Wire.traffic c.args.wire.now);
  none = refl;
}

pub returns-then-acknowledged-clause-waits : goal.returns-then-acknowledged-clause-waits
returns-then-acknowledged-clause-waits g c =
    waits_told (acknowledges c.args.host c.args.id c.args.start) (packet (Host c.args.host) c.args.told.now) (g.W.Wire.traffic c.args.wire.now)
    (g.W.Wire.traffic c.loop-turn.wire) (g.W.Wire.traffic c.turn.new.wire) c.loop-turn._turn _
    c.loop-turn-test.true c.loop-turn.invariant.waiting c.in-Ok.ensures.traffic c.if-acknowledged.true

pub returns-in-Err-clause-waits : goal.returns-in-Err-clause-waits
returns-in-Err-clause-waits g c = rw c.end_of.ensures (
    waits_stopped (acknowledges c.args.host c.args.id c.args.start) (packet (Host c.args.host) c.args.told.now) (g.W.Wire.traffic c.args.wire.now)
    (g.W.Wire.traffic c.loop-turn.wire) (g.W.Wire.traffic c.turn.new.wire) c.loop-turn._turn c.in-Err.stop
    c.loop-turn-test.true c.loop-turn.invariant.waiting c.in-Err.ensures.traffic)

pub returns-in-Err-clause-cause : goal.returns-in-Err-clause-cause
returns-in-Err-clause-cause g c = rw c.end_of.ensures
    (ends_with (g.W.Wire.receive_faults c.args.wire.now) (g.W.Wire.receive_faults c.turn.new.wire) c.in-Err.stop
    (stops_then {A = Bool} (g.W.Wire.receive_faults c.args.wire.now) (g.W.Wire.receive_faults c.loop-turn.wire)
    (g.W.Wire.receive_faults c.turn.new.wire) (Err c.in-Err.stop) c.loop-turn.invariant.none c.in-Err.ensures.cause))

pub loop-turn-preserved : goal.loop-turn-preserved
loop-turn-preserved g c = record {
  waiting = waiting_more (acknowledges c.args.host c.args.id c.args.start) (packet (Host c.args.host) c.args.told.now) (g.W.Wire.traffic c.args.wire.now)
      (g.W.Wire.traffic c.loop-turn.wire) (g.W.Wire.traffic c.turn.new.wire) c.loop-turn._turn _
      c.loop-turn.invariant.waiting c.in-Ok.ensures.traffic c.if-acknowledged.false;
  none = c.in-Ok.ensures.cause ∙ c.loop-turn.invariant.none;
}

pub returns-clause-waits : goal.returns-clause-waits
returns-clause-waits g c =
    waits_none (acknowledges c.args.host c.args.id c.args.start) (packet (Host c.args.host) c.args.told.now) (g.W.Wire.traffic c.args.wire.now)
    (g.W.Wire.traffic c.loop-turn.wire) c.loop-turn._turn
    (omega (arith, c.loop-turn-test.false, c.loop-turn.auto._turn-end)) c.loop-turn.invariant.waiting
