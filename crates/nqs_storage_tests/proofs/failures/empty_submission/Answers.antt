use Rattle.std.proofs.Common.{refl}
use Rattle.nqs_storage_tests.proofs.failures.empty_submission.Goals as goal

pub returns : goal.returns
returns c = rw (c.batch.ensures, c.new.ensures, c.new-2.ensures, c.new-3.ensures) refl
