use Rattle.std.proofs.Common.{◌≡◌, map, take}
use Rattle.nqs_outside.specs.Asked.{outbound}
use Rattle.nqs_serve.specs.Letters.{packets_to}
use Rattle.nqs_serve.specs.Tellings.{Passes}
use Rattle.nqs_serve.proofs.carry.send_all.Given as goal

abbrev pub invariant-loop-place : goal.invariant-loop-place
invariant-loop-place g l = record {
  sends : Passes (g.X.Outside.told l.fn.outside) (g.X.Outside.told l.outside) (map outbound (packets_to l.to (take l.place l.datagrams)));
  heard : g.X.Outside.receive_faults l.outside ≡ g.X.Outside.receive_faults l.fn.outside;
  borrows : g.X.Outside.borrows l.outside ≡ g.X.Outside.borrows l.fn.outside;
}
