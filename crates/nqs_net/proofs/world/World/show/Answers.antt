use Rattle.nqs_net.proofs.Following.{follow_each}
use Rattle.nqs_net.proofs.Placing.{tears_as_long}
use Rattle.nqs_net.proofs.world.World.show.Goals as goal

pub returns-clause-follow : goal.returns-clause-follow
returns-clause-follow c = λ network stands. let world = c.args.self.now in
    follow_each world.tears.items world.slots.items c.table.new.self.slots.items
    (tears_as_long world.slots.items world.tears.items network.hosts stands.hosts) c.in_ok-rows.ensures.disks
