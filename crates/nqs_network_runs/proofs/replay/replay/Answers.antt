use Rattle.nqs_network_runs.proofs.Complete.{complete}
use Rattle.nqs_network_runs.proofs.replay.replay.Goals as goal

pub returns-clause-complete : goal.returns-clause-complete
returns-clause-complete g c = complete _ _ _ _ _ c.obey.result c.obey.ensures

pub returns-clause-laws : goal.returns-clause-laws
returns-clause-laws g c = c.runs_keep_the_laws.ensures _ _
