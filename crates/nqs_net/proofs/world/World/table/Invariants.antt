use Rattle.std.proofs.Common.{◌≡◌, List, map, take}
use Rattle.nqs_base.specs.declared.tear.Tear.{Tear}
use Rattle.nqs_rules.specs.World.{Host}
use Rattle.nqs_rules_table.specs.Standing.{StandForEach}
use Rattle.nqs_net.specs.Followed.{disks_in}
use Rattle.nqs_net.specs.Worlds.{AreSlots}
use Rattle.nqs_net.proofs.world.World.table.Given as goal

-- the disks are as they were, the slots stand for the hosts that they stood for, and the states so
-- far for theirs
abbrev pub invariant-loop-slot : goal.invariant-loop-slot
invariant-loop-slot l = record {
  disks : map disks_in l.slot-items ≡ map disks_in l.fn.self.slots.items;
  stands : (tears : List Tear) (hosts : List Host) → AreSlots l.fn.self.slots.items tears hosts
      → AreSlots l.slot-items tears hosts × StandForEach l.states.items (take l.slot-index (map (λ h. h.state) hosts));
}
