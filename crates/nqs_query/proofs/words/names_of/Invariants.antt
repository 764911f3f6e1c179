use Rattle.std.proofs.Common.{◌≡◌, drop}
use Rattle.nqs_query.specs.Words.{names_of}
use Rattle.nqs_query.proofs.Names.{joined}
use Rattle.nqs_query.proofs.words.names_of.Given as goal

abbrev pub invariant-loop-i : goal.invariant-loop-i
invariant-loop-i l = record {
  so_far : joined l.names.items l.i (names_of (drop l.i l.words)) ≡ names_of l.words;
}
