use Rattle.std.proofs.Common.{◌≡◌, ◌-◌, ◌++◌, take, replicate}
use Rattle.nqs_base.specs.Name.{AllowedBelow}
use Rattle.nqs_base.proofs.name.Name.read.Given as goal

abbrev pub invariant-loop-i : goal.invariant-loop-i
invariant-loop-i l = record {
  allowed : AllowedBelow l.bytes l.i;
  kept : l.kept ≡ take l.i l.bytes ++ replicate (15 - l.i) 0;
}
