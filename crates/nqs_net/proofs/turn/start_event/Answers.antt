use Rattle.std.proofs.Common.{◌∙◌, Err, true≢false, ◌++◌, map, refl, sym, ap}
use Rattle.nqs_rules.specs.Stepped.{shown}
use Rattle.nqs_node.specs.Carried.{started}
use Rattle.nqs_net.proofs.Starting.{none_of}
use Rattle.nqs_net.proofs.Turning.{took_step, broke_step}
use Rattle.nqs_net.proofs.turn.start_event.Goals as goal

pub returns-in-Ok-clause-taken : goal.returns-in-Ok-clause-taken
returns-in-Ok-clause-taken c = λ host is empty.
    let x = started c.args.now host.state in
    let did = c.in-Ok.ensures.takes.carries host.state is.tells in
    took_step c.args.node.now c.start_next.new.self host is x c.start_next.new.out.items (did.any_moment refl host.state is.tells)
    (c.in-Ok.ensures.leaves.stops.fuse refl)
    (did.told refl host.state is.tells) (did.made refl) (did.outputs refl host.state is.tells ∙ ap (λ l. l ++ map shown x.outputs) empty) did.active

pub returns-in-Err-Disk-clause-taken : goal.returns-in-Err-Disk-clause-taken
returns-in-Err-Disk-clause-taken c = λ host is empty.
    let did = c.in-Err-Disk.ensures.takes.carries host.state is.tells in
    broke_step c.args.node.now c.start_next.new.self host is (started c.args.now host.state) c.start_next.new.out.items
    (did.any_moment refl host.state is.tells) (c.in-Err-Disk.ensures.leaves.stops.fuse refl) c.in-Err-Disk.field-0-0
    (did.cut refl host.state is.tells c.in-Err-Disk.field-0-0 (ap Err c.in-Err-Disk.field-0-is))

pub returns-in-Ok-clause-last : goal.returns-in-Ok-clause-last
returns-in-Ok-clause-last c = λ host is took none. none_of c.args.now c.args.node.now host is (sym c.in-Ok.ensures.more ∙ none)

pub start_next-requires : goal.start_next-requires
start_next-requires c = record { sound = c.requires.sound }

pub returns-in-Ok-clause-sound : goal.returns-in-Ok-clause-sound
returns-in-Ok-clause-sound c = c.in-Ok.ensures.leaves.sound

pub returns-in-Err-Disk-clause-sound : goal.returns-in-Err-Disk-clause-sound
returns-in-Err-Disk-clause-sound c = c.in-Err-Disk.ensures.leaves.sound

pub returns-in-Err-Disk-clause-last : goal.returns-in-Err-Disk-clause-last
returns-in-Err-Disk-clause-last c = λ host is took none. absurd (true≢false (sym took))

pub returns-in-Ok-clause-running : goal.returns-in-Ok-clause-running
returns-in-Ok-clause-running c = λ took. c.in-Ok.ensures.leaves.stops.running

pub returns-in-Ok-clause-fewer : goal.returns-in-Ok-clause-fewer
returns-in-Ok-clause-fewer c = λ more. (refl, c.in-Ok.ensures.fewer more)

pub returns-in-Err-Disk-clause-running : goal.returns-in-Err-Disk-clause-running
returns-in-Err-Disk-clause-running c = λ took. absurd (true≢false (sym took))

pub returns-in-Err-Disk-clause-fewer : goal.returns-in-Err-Disk-clause-fewer
returns-in-Err-Disk-clause-fewer c = λ more. absurd (true≢false (sym more))

pub returns-in-Err-Memory : goal.returns-in-Err-Memory
returns-in-Err-Memory c = record { sound = c.in-Err-Memory.ensures.leaves.sound; running = tt; fewer = tt; taken = λ host is empty. tt; last = λ host is. tt }

pub unreachable-requires : goal.unreachable-requires
unreachable-requires c = true≢false (sym (c.in-Err-Stopped.ensures.leaves.stopped.0 (ap Err c.in-Err-Stopped.field-0-is)) ∙ c.requires.running)

pub unreachable-unreachable : goal.unreachable-unreachable
unreachable-unreachable c = c.unreachable.type_inv
