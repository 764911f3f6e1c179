use Rattle.nqs_net.proofs.Leaving.{LeaveEach}
use Rattle.nqs_net.proofs.world.World.close.Given as goal

-- the disks so far are those that the hosts so far leave
abbrev pub invariant-loop-slot : goal.invariant-loop-slot
invariant-loop-slot l = LeaveEach l.yielded l.left.items
