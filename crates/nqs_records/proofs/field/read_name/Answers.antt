use Rattle.std.proofs.Common.{Ok, Err}
use Rattle.nqs_records.proofs.Named.{name_same}
use Rattle.nqs_records.proofs.field.read_name.Goals as goal

pub returns-in-Ok : goal.returns-in-Ok
returns-in-Ok c = name_same c.args.bytes.now c.args.place (Ok c.in-Ok.taken) c.in-Ok.ensures

pub returns-in-Err : goal.returns-in-Err
returns-in-Err c = rw c.as_fault.ensures (name_same c.args.bytes.now c.args.place (Err c.in-Err.fault) c.in-Err.ensures)
