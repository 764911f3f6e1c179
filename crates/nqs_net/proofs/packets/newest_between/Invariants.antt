use Rattle.std.proofs.Common.{◌≡◌, ◌≤◌, [], drop, filter, length}
use Rattle.nqs_rules.specs.World.{is_between}
use Rattle.nqs_net.proofs.packets.newest_between.Given as goal

-- none of the later packets is one of theirs
abbrev pub invariant-loop-place : goal.invariant-loop-place
invariant-loop-place l = (l.place ≤ length l.packets) × (filter (is_between l.one l.other) (drop l.place l.packets) ≡ [])

abbrev pub decreases-loop-place : goal.decreases-loop-place
decreases-loop-place l = l.place
