use Rattle.nqs_store.proofs.TellsNow.{one_active}
use Rattle.nqs_store.proofs.laws.one_journal_is_active.Goals as goal

pub returns : goal.returns
returns c = one_active
