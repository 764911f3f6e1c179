use Rattle.std.proofs.Common.{take}
use Rattle.nqs_rules.specs.World.{hosts_from}
use Rattle.nqs_net.specs.Worlds.{AreSlots}
use Rattle.nqs_net.proofs.world.World.new.Given as goal

-- the slots so far stand for the first hosts of the site
abbrev pub invariant-loop-me : goal.invariant-loop-me
invariant-loop-me l = AreSlots l.slots.items l.tears.items (hosts_from 0 l.site (take l.me l.site))
