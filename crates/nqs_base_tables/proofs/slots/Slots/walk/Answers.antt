use Rattle.std.proofs.Common.{◌≡◌, length, arith}
use Rattle.nqs_base_tables.specs.Slots.{live, filled}
use Rattle.nqs_base_tables.proofs.SlotLemmas.{filled-all}
use Rattle.nqs_base_tables.proofs.slots.Slots.walk.Goals as goal

pub returns-then-left-one-clause-filled : goal.returns-then-left-one-clause-filled
returns-then-left-one-clause-filled g c = record { within = omega arith; here = omega arith }

pub loop-slot-preserved : goal.loop-slot-preserved
loop-slot-preserved g c = omega arith

pub unreachable-requires : goal.unreachable-requires
unreachable-requires g c =
    let all : filled c.args.self.now.entries c.loop-slot.slot ≡ length (live c.args.self.now.entries) =
    filled-all c.args.self.now.entries c.loop-slot.slot (omega arith) in
    omega arith
