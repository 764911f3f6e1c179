use Rattle.std.proofs.Common.{length}
use Rattle.nqs_records.proofs.extents.+put_part_extents.Given as goal

abbrev pub decreases-put_part_extents : goal.decreases-put_part_extents
decreases-put_part_extents l = length l.parts.now
