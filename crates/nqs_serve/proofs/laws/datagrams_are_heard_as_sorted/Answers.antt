use Rattle.nqs_serve.proofs.Gathers.{heard_as_sorted}
use Rattle.nqs_serve.proofs.laws.datagrams_are_heard_as_sorted.Goals as goal

pub returns : goal.returns
returns c = heard_as_sorted
