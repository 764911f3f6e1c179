use Rattle.nqs_words.proofs.Seconds.{moment_of-Ok, moment_of-Err}
use Rattle.nqs_words.proofs.moments.moment_of.Goals as goal

pub returns-in-Ok : goal.returns-in-Ok
returns-in-Ok c = moment_of-Ok c.args.bytes.now c.in-Ok.moment c.in-Ok.ensures

pub returns-in-Err : goal.returns-in-Err
returns-in-Err c = moment_of-Err c.args.bytes.now c.in-Err.field-0 c.in-Err.ensures
