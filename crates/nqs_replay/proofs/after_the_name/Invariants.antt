use Rattle.std.proofs.Common.{◌≡◌, ◌++◌, drop}
use Rattle.nqs_replay.proofs.after_the_name.Given as goal

abbrev pub invariant-loop-word : goal.invariant-loop-word
invariant-loop-word l = l.words.items ++ l.word-iterator.rest.items ≡ drop 1 l.fn.given.rest.items
