use Rattle.std.proofs.Common.{subst}
use Rattle.nqs_network_runs.specs.Words.{IsWithin}
use Rattle.nqs_network_runs.proofs.Matched.{asked_within}
use Rattle.nqs_network_runs.proofs.replay.obey.Goals as goal

pub play_generated-requires-clause-some : goal.play_generated-requires-clause-some
play_generated-requires-clause-some g c = (subst IsWithin c.in-Some.is (asked_within _ c.in-Ok.ask c.in-Ok.ensures)).0

pub play_generated-requires-clause-few : goal.play_generated-requires-clause-few
play_generated-requires-clause-few g c = (subst IsWithin c.in-Some.is (asked_within _ c.in-Ok.ask c.in-Ok.ensures)).1
