use Rattle.std.proofs.Common.{refl}
use Rattle.nqs_storage_tests.proofs.node.submission.Goals as goal

pub returns : goal.returns
returns c = rw (c.batch.ensures, c.new.ensures, c.new-2.ensures, c.from_vec.ensures, c.in_ok-extend_from_slice.ensures.items, c.new-script.ensures.items) refl
