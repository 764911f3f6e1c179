use Rattle.std.proofs.Common.{◌≡◌, map, take}
use Rattle.nqs_real.proofs.site.names_of.Given as goal

abbrev pub invariant-loop-host : goal.invariant-loop-host
invariant-loop-host l = l.names ≡ map (λ host. host.name) (take l.host-index l.site)
