use Rattle.nqs_qsub.proofs.reading.+read_words.Given as goal

abbrev pub decreases-read_words : goal.decreases-read_words
decreases-read_words l = l.left
