use Rattle.std.proofs.Common.{refl, rules, take}
use Rattle.nqs_seal.proofs.Opened.{opened_true, opened_false, opened_quiet, opened_nothing}
use Rattle.nqs_seal.proofs.sealed.SealedWire.receive_one.Goals as goal

pub returns-then-is_sealed-clause-came : goal.returns-then-is_sealed-clause-came
returns-then-is_sealed-clause-came g c =
    let told = rw c.in-Ok-Datagram.field-0-is at c.in-Ok-Datagram.ensures in
    opened_true c.args.self.now.key.bytes _ _ (g.W.Wire.traffic c.args.self.now.inner) (g.W.Wire.traffic c.receive.new.self)
    c.in-Ok-Datagram.count c.receive.new.buf (search rules) (search (rules, told.within)) (search rules) told.came

pub returns-in-Ok-Quiet-clause-came : goal.returns-in-Ok-Quiet-clause-came
returns-in-Ok-Quiet-clause-came g c =
    let told = rw c.in-Ok-Quiet.field-0-is at c.in-Ok-Quiet.ensures in
    opened_quiet c.args.self.now.key.bytes _ _ (g.W.Wire.traffic c.args.self.now.inner) (g.W.Wire.traffic c.receive.new.self) (search rules) told.came

pub returns-else-is_sealed-clause-passed_over : goal.returns-else-is_sealed-clause-passed_over
returns-else-is_sealed-clause-passed_over g c =
    let told = rw c.in-Ok-Datagram.field-0-is at c.in-Ok-Datagram.ensures in
    opened_false c.args.self.now.key.bytes _ _ (g.W.Wire.traffic c.args.self.now.inner) (g.W.Wire.traffic c.receive.new.self)
    (take c.in-Ok-Datagram.count c.receive.new.buf) (search rules) (search rules) told.came

pub returns-in-Err-clause-lost : goal.returns-in-Err-clause-lost
returns-in-Err-clause-lost g c =
    opened_nothing c.args.self.now.key.bytes _ _ (g.W.Wire.traffic c.args.self.now.inner) (g.W.Wire.traffic c.receive.new.self)
    refl c.in-Err.ensures.lost
