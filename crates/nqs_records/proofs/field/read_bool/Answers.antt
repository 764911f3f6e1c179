use Rattle.std.proofs.Common.{Ok, Err}
use Rattle.nqs_records.proofs.Named.{bool_same}
use Rattle.nqs_records.proofs.field.read_bool.Goals as goal

pub returns-in-Ok : goal.returns-in-Ok
returns-in-Ok c = bool_same c.args.bytes.now c.args.place (Ok c.in-Ok.taken) c.in-Ok.ensures

pub returns-in-Err : goal.returns-in-Err
returns-in-Err c = rw c.as_fault.ensures (bool_same c.args.bytes.now c.args.place (Err c.in-Err.fault) c.in-Err.ensures)
