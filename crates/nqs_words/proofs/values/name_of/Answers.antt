use Rattle.nqs_words.proofs.Names.{name_of-Ok, name_of-Err}
use Rattle.nqs_words.proofs.values.name_of.Goals as goal

pub returns-in-Ok : goal.returns-in-Ok
returns-in-Ok c = name_of-Ok c.args.bytes.now c.in-Ok.name c.in-Ok.ensures

pub returns-in-Err : goal.returns-in-Err
returns-in-Err c = name_of-Err c.args.bytes.now c.in-Err.field-0 c.in-Err.ensures
