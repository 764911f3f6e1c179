use Rattle.std.proofs.Common.{◌≡◌, ◌-◌, ◌≤◌, length}
use Rattle.nqs_schedule.specs.Lines.{words_from}
use Rattle.nqs_schedule.proofs.Splits.{joined}
use Rattle.nqs_schedule.proofs.words.line_words.Given as goal

abbrev pub invariant-loop : goal.invariant-loop
invariant-loop l = record {
  inside : l.place ≤ length l.line;
  so_far : joined l.words (words_from (length l.line - l.counter) l.line l.place) ≡ words_from (length l.line) l.line 0;
}
