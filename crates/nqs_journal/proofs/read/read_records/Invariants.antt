use Rattle.std.proofs.Common.{◌≡◌, ◌+◌, ◌++◌, length, take}
use Rattle.std.specs.List.{AllByRecursion}
use Rattle.nqs_journal.specs.Text.{records, IsShort}
use Rattle.nqs_journal.proofs.read.read_records.Given as goal

abbrev pub invariant-records : goal.invariant-records
invariant-records l = record {
  text : l.bytes ≡ take l.front l.bytes ++ records l.payloads.items ++ l.rest;
  gate : l.gate ≡ length (take l.front l.bytes ++ records l.payloads.items);
  size : l.gate + length l.rest ≡ length l.bytes;
  short : AllByRecursion IsShort l.payloads.items;
}

abbrev pub decreases-records : goal.decreases-records
decreases-records l = length l.rest
