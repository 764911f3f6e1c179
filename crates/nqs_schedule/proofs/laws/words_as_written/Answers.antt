use Rattle.nqs_schedule.proofs.Writings.{lines_are_split}
use Rattle.nqs_schedule.proofs.Verbs.{events_are_read}
use Rattle.nqs_schedule.proofs.Saying.{words_are_read}
use Rattle.nqs_schedule.proofs.laws.words_as_written.Goals as goal

pub returns : goal.returns
returns c = record { split = lines_are_split; events = events_are_read; words = words_are_read }
