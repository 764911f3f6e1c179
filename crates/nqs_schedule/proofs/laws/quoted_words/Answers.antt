use Rattle.nqs_schedule.proofs.Quotes.{reads_back, was_quoted}
use Rattle.nqs_schedule.proofs.laws.quoted_words.Goals as goal

pub returns : goal.returns
returns c = record { back = reads_back; written = was_quoted }
