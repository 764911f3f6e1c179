use Rattle.std.proofs.Common.{◌≡◌}
use Rattle.nqs_outside.specs.Asked.{packet}
use Rattle.nqs_outside.specs.declared.wire.Address.TheVariants.{Host}
use Rattle.nqs_clients.specs.Shepherd.{acknowledges}
use Rattle.nqs_clients.proofs.Waiting.{IsWaiting}
use Rattle.nqs_clients.proofs.shepherding.tell.Given as goal

abbrev pub invariant-loop-turn : goal.invariant-loop-turn
invariant-loop-turn g l = record {
  waiting : IsWaiting (acknowledges l.host l.id l.start) (packet (Host l.host) l.told) (g.W.Wire.traffic l.fn.wire) (g.W.Wire.traffic l.wire) l._turn;
  none : g.W.Wire.receive_faults l.wire ≡ g.W.Wire.receive_faults l.fn.wire;
}
