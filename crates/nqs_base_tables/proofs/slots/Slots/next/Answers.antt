use Rattle.std.proofs.Common.{◌≡◌, length, arith}
use Rattle.nqs_base_tables.specs.Slots.{live, filled}
use Rattle.nqs_base_tables.proofs.SlotLemmas.{filled-all}
use Rattle.nqs_base_tables.proofs.slots.Slots.next.Goals as goal

pub returns-then-one-eq1-clause-filled : goal.returns-then-one-eq1-clause-filled
returns-then-one-eq1-clause-filled g c h = record { within = omega arith; here = omega arith }

pub returns-clause-filled : goal.returns-clause-filled
returns-clause-filled g c h =
    let all : filled c.args.self.now.entries c.loop-slot.slot ≡ length (live c.args.self.now.entries) =
    filled-all c.args.self.now.entries c.loop-slot.slot (omega arith) in
    absurd (omega arith)

pub loop-slot-preserved : goal.loop-slot-preserved
loop-slot-preserved g c = omega arith
