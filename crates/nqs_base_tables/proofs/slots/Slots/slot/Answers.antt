use Rattle.std.proofs.Common.{◌≡◌, length, arith}
use Rattle.nqs_base_tables.specs.Slots.{live}
use Rattle.nqs_base_tables.proofs.SlotLemmas.{filled-closed, IsFilled-closed}
use Rattle.nqs_base_tables.proofs.slots.Slots.slot.Goals as goal

pub returns-then-end-len-clause-filled : goal.returns-then-end-len-clause-filled
returns-then-end-len-clause-filled g c =
    let closed : length c.args.self.now.entries ≡ length (live c.args.self.now.entries) = omega arith in
    IsFilled-closed c.args.self.now.entries c.args.place closed (omega arith)

pub returns-then-end-len-clause-place : goal.returns-then-end-len-clause-place
returns-then-end-len-clause-place g c =
    let closed : length c.args.self.now.entries ≡ length (live c.args.self.now.entries) = omega arith in
    filled-closed c.args.self.now.entries c.args.place closed (omega arith)
