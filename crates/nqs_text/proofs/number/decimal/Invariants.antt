use Rattle.std.proofs.Common.{◌≡◌, drop, ◌<◌, ◌^◌}
use Rattle.nqs_text.specs.Number.{decimal_from}
use Rattle.nqs_text.proofs.number.decimal.Given as goal

abbrev pub invariant-loop-byte : goal.invariant-loop-byte
invariant-loop-byte l = record {
  fits : l.value < 2 ^ 64;
  so_far : decimal_from l.value (drop l.byte-index l.bytes) ≡ decimal_from 0 l.bytes;
}
