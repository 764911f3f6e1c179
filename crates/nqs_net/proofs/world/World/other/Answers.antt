use Rattle.nqs_base.proofs.Plain.{anyway}
use Rattle.nqs_net.proofs.Following.{follow_selves, follow_each}
use Rattle.nqs_net.proofs.Placing.{tears_as_long}
use Rattle.nqs_net.proofs.world.World.other.Goals as goal

pub returns-in-Deliver-clause-follow : goal.returns-in-Deliver-clause-follow
returns-in-Deliver-clause-follow c = λ network stands. let world = c.args.self.now in
    anyway c.miss.result (follow_selves world.tears.items world.slots.items (tears_as_long world.slots.items world.tears.items network.hosts stands.hosts))

pub returns-in-Newest-clause-follow : goal.returns-in-Newest-clause-follow
returns-in-Newest-clause-follow c = λ network stands. let world = c.args.self.now in
    anyway c.miss-in-Newest.result (follow_selves world.tears.items world.slots.items
    (tears_as_long world.slots.items world.tears.items network.hosts stands.hosts))

pub returns-in-Clock-clause-follow : goal.returns-in-Clock-clause-follow
returns-in-Clock-clause-follow c = λ network stands. let world = c.args.self.now in
    follow_selves world.tears.items world.slots.items (tears_as_long world.slots.items world.tears.items network.hosts stands.hosts)

pub returns-in-Fuse-clause-follow : goal.returns-in-Fuse-clause-follow
returns-in-Fuse-clause-follow c = λ network stands. let world = c.args.self.now in
    follow_each world.tears.items world.slots.items c.fuse.new.self.slots.items
    (tears_as_long world.slots.items world.tears.items network.hosts stands.hosts) c.fuse.ensures.disks
