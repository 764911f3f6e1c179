use Rattle.std.proofs.Common.{◌≡◌, ◌++◌, take, drop}
use Rattle.nqs_records.specs.Extents.{parts_with}
use Rattle.nqs_store.proofs.put.set_part_extents.Given as goal

abbrev pub invariant-loop-place : goal.invariant-loop-place
invariant-loop-place l = l.parts ≡ parts_with (take l.place l.initial.parts) l.extents ++ drop l.place l.initial.parts
