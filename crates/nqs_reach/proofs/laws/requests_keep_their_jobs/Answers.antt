use Rattle.nqs_rules.proofs.StateFacts.{keys_are}
use Rattle.nqs_reach.proofs.Runs.{reached_by}
use Rattle.nqs_reach.proofs.laws.requests_keep_their_jobs.Goals as goal

pub returns : goal.returns
returns c = λ a s id before after order found there. (reached_by a s).lasts (keys_are s order.keys).rows id before after found there
