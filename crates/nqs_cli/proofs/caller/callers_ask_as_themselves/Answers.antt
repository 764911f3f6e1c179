use Rattle.nqs_cli.proofs.Callers.{asks_as}
use Rattle.nqs_cli.proofs.caller.callers_ask_as_themselves.Goals as goal

pub returns : goal.returns
returns c = asks_as
