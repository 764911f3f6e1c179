use Rattle.std.proofs.Common.{arith}
use Rattle.nqs_records.proofs.Spelled.{reads_the_spelling}
use Rattle.nqs_store.proofs.formatting.read_back.Goals as goal

pub returns : goal.returns
returns c = λ stands is. (reads_the_spelling c.args.text.now c.args.change.now (λ i. omega (arith, c.type_inv.text i))).1 (is, stands)
