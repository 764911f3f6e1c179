use Rattle.std.proofs.Common.{length}
use Rattle.nqs_words.proofs.keywords.+begins.Given as goal

abbrev pub decreases-begins : goal.decreases-begins
decreases-begins l = length l.word.now
