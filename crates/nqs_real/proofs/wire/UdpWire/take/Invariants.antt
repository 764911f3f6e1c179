use Rattle.std.proofs.Common.{◌≡◌, length}
use Rattle.nqs_real.proofs.wire.UdpWire.take.Given as goal

-- nothing came so far
abbrev pub invariant-loop : goal.invariant-loop
invariant-loop l = record {
  length : length l.buf ≡ length l.fn.buf;
  receive_faults : l.self.receive_faults ≡ l.fn.self.receive_faults;
  send_faults : l.self.send_faults ≡ l.fn.self.send_faults;
}
