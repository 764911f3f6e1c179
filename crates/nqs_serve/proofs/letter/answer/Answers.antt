use Rattle.std.proofs.Common.{length}
use Rattle.std.proofs.lemmas.Bool.{le-leb}
use Rattle.nqs_serve.proofs.letter.answer.Goals as goal

pub post-requires-clause-short : goal.post-requires-clause-short
post-requires-clause-short c = le-leb (length c.in_ok-text.text) 48006 c.in_ok-text.ensures.short
