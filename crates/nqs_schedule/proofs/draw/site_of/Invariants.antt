use Rattle.std.proofs.Common.{◌≡◌}
use Rattle.nqs_schedule.specs.Generated.{generated_site}
use Rattle.nqs_schedule.proofs.draw.site_of.Given as goal

abbrev pub invariant-loop-host : goal.invariant-loop-host
invariant-loop-host l = record { so_far : l.site.items ≡ generated_site l.host }
