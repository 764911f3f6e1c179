use Rattle.nqs_rules.proofs.Until.{starts-none, starts-some, starts_end}
use Rattle.nqs_rules.proofs.start_laws.starts_go_on_until_none.Goals as goal

pub returns : goal.returns
returns c = record { none = starts-none; some = starts-some; end = starts_end }
