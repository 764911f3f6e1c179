use Rattle.std.proofs.Common.{◌≡◌, replicate}
use Rattle.nqs_rules.specs.Format.{new_peer}
use Rattle.nqs_host.proofs.format.new_peers.Given as goal

abbrev pub invariant-loop-place : goal.invariant-loop-place
invariant-loop-place l = l.peers ≡ replicate l._place new_peer
