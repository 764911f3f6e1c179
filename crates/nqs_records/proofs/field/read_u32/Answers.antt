use Rattle.std.proofs.Common.{arith, Ok, Err}
use Rattle.nqs_records.proofs.Numbers.{u32_same}
use Rattle.nqs_records.proofs.field.read_u32.Goals as goal

pub returns-in-Ok : goal.returns-in-Ok
returns-in-Ok c = u32_same c.args.bytes.now c.args.place (Ok c.in-Ok.taken) (λ i. omega (arith, c.type_inv.bytes i)) c.in-Ok.ensures

pub returns-in-Err : goal.returns-in-Err
returns-in-Err c = u32_same c.args.bytes.now c.args.place (Err c.in-Err.field-0) (λ i. omega (arith, c.type_inv.bytes i)) c.in-Err.ensures
