use Rattle.nqs_serve.proofs.Gathers.{made_as_sorted}
use Rattle.nqs_serve.proofs.laws.made_messages_are_heard_as_sorted.Goals as goal

pub returns : goal.returns
returns c = made_as_sorted
