use Rattle.std.proofs.Common.{◌≡◌, ◌<◌, length, sym, arith}
use Rattle.nqs_base_tables.specs.Slots.{live}
use Rattle.nqs_base_tables.proofs.SlotLemmas.{filled-closed}
use Rattle.nqs_base_tables.proofs.slots.Slots.place.Goals as goal

pub returns-then-end-len : goal.returns-then-end-len
returns-then-end-len g c =
    let closed : length c.args.self.now.entries ≡ length (live c.args.self.now.entries) = omega arith in
    let within : c.args.slot < length c.args.self.now.entries = c.requires.within in
    sym (filled-closed c.args.self.now.entries c.args.slot closed (omega arith))
