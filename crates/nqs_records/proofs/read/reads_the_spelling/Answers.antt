use Rattle.nqs_records.proofs.Spelled.{reads_the_spelling}
use Rattle.nqs_records.proofs.read.reads_the_spelling.Goals as goal

pub returns : goal.returns
returns c = reads_the_spelling
