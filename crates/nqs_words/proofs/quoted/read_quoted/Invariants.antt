use Rattle.std.proofs.Common.{◌≡◌, ◌≤◌, ◌-◌, length, drop}
use Rattle.nqs_words.specs.Quoted.{after, quoted}
use Rattle.nqs_words.proofs.quoted.read_quoted.Given as goal

abbrev pub invariant-loop : goal.invariant-loop
invariant-loop l = record {
  inside : l.place ≤ length l.bytes;
  so_far : after l.word.items (quoted (length l.bytes - l.counter) (drop l.place l.bytes)) ≡ quoted (length l.bytes) l.bytes;
}
