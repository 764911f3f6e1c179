use Rattle.std.proofs.Common.{arith}
use Rattle.nqs_state.specs.State.{content}
use Rattle.nqs_snapshot.proofs.Snapshots.{reads_back}
use Rattle.nqs_snapshot.proofs.write.spelling_reads_back.Goals as goal

pub returns : goal.returns
returns c = λ consistent short.
    reads_back c.args.spelling.now (content c.args.state.now) (λ i. omega (arith, c.type_inv.spelling i)) c.requires.written
    (c.requires.stands short) c.requires.order consistent
