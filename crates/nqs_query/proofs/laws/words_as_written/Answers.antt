use Rattle.nqs_query.proofs.Stats.{stats_are_read}
use Rattle.nqs_query.proofs.Deletes.{deletes_are_read}
use Rattle.nqs_query.proofs.laws.words_as_written.Goals as goal

pub returns : goal.returns
returns c = record { stats = stats_are_read; deletes = deletes_are_read }
