use Rattle.nqs_packets.proofs.Spelled.{reads_the_spelling}
use Rattle.nqs_packets.proofs.laws.reads_the_spelling.Goals as goal

pub returns : goal.returns
returns c = reads_the_spelling
