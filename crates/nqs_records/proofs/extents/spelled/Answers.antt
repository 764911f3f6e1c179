use Rattle.std.proofs.Common.{rules}
use Rattle.nqs_codec.specs.Fields.{u32_field, u64_field}
use Rattle.nqs_records.specs.Spelling.{extent_field}
use Rattle.nqs_records.proofs.extents.spelled.Goals as goal

pub returns : goal.returns
unfolding extent_field u32_field u64_field
returns c = search rules
