use Rattle.std.proofs.Common.{◌≡◌, take}
use Rattle.nqs_outside.specs.Told.{Extends}
use Rattle.nqs_clients.specs.Exchange.{sends}
use Rattle.nqs_clients.proofs.exchange.send_all.Given as goal

abbrev pub invariant-loop-place : goal.invariant-loop-place
invariant-loop-place g l = record {
  sent : Extends (g.W.Wire.traffic l.fn.wire) (g.W.Wire.traffic l.wire) (take l.place (sends l.host l.letters));
  uncounted : g.W.Wire.send_faults l.wire ≡ g.W.Wire.send_faults l.fn.wire;
  unheard : g.W.Wire.receive_faults l.wire ≡ g.W.Wire.receive_faults l.fn.wire;
}
