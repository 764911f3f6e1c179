use Rattle.std.proofs.Common.{◌≡◌, [], length}
use Rattle.nqs_seal.specs.Wires.{opened_of}
use Rattle.nqs_outside.specs.Told.{Extends}
use Rattle.nqs_seal.proofs.sealed.SealedWireWire.receive.Given as goal

-- all so far was passed over
abbrev pub invariant-loop : goal.invariant-loop
invariant-loop g l = record {
  traffic : Extends (opened_of l.fn.self) (opened_of l.self) [];
  length : length l.buf ≡ length l.fn.buf;
  key : l.self.key ≡ l.fn.self.key;
  starved : l.self.starved ≡ l.fn.self.starved;
  receive_faults : l.self.receive_faults ≡ l.fn.self.receive_faults;
  send_faults : l.self.send_faults ≡ l.fn.self.send_faults;
  receives : g.W.Wire.receive_faults l.self.inner ≡ g.W.Wire.receive_faults l.fn.self.inner;
  sends : g.W.Wire.send_faults l.self.inner ≡ g.W.Wire.send_faults l.fn.self.inner;
}
