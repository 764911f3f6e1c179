use Rattle.std.proofs.Common.{rules}
use Rattle.nqs_seal.proofs.Told.{starved_tells_none}
use Rattle.nqs_seal.proofs.Tags.{sends_one}
use Rattle.nqs_seal.proofs.sealed.SealedWireWire.send.Goals as goal

pub returns-then-is_err-clause-sends : goal.returns-then-is_err-clause-sends
returns-then-is_err-clause-sends g c = starved_tells_none _ _ _ _ c.starve.ensures.starved

pub returns-clause-sends : goal.returns-clause-sends
returns-clause-sends g c =
    rw c.seal.ensures.others.1
    (sends_one c.args.self.now.key.bytes c.args.bytes.now c.args.to c.args.self.now.starved c.seal.new.self.starved
    (g.W.Wire.traffic c.args.self.now.inner) (g.W.Wire.traffic c.send.new.self) c.seal.new.self.room.items
    c.seal.ensures.others.2 (search rules) (search rules))
