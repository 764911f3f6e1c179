use Rattle.std.proofs.Common.{◌≡◌, ◌++◌, take}
use Rattle.std.specs.List.{flat_map}
use Rattle.nqs_real.specs.Lost.{coded}
use Rattle.nqs_real.proofs.lost.code_all.Given as goal

-- the bytes so far stand behind what was there
abbrev pub invariant-loop-byte : goal.invariant-loop-byte
invariant-loop-byte l = l.name.items ≡ l.fn.name.items ++ flat_map coded (take l.byte-index l.bytes)
