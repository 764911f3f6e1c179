use Rattle.std.proofs.Common.{length}
use Rattle.nqs_storage_tests.proofs.failures.end_of.Goals as goal

pub cut-requires-clause-sane : goal.cut-requires-clause-sane
cut-requires-clause-sane c = c.ended.ensures (length c.start_next.new.self.state.site)
