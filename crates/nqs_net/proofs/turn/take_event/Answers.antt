use Rattle.std.proofs.Common.{◌∙◌, Err, true≢false, ◌++◌, map, refl, sym, ap}
use Rattle.nqs_rules.specs.Step.{step}
use Rattle.nqs_rules.specs.Stepped.{shown}
use Rattle.nqs_node.proofs.Telling.{halts_told}
use Rattle.nqs_net.proofs.Turning.{took_step, broke_step}
use Rattle.nqs_net.proofs.turn.take_event.Goals as goal

pub returns-in-Ok-clause-taken : goal.returns-in-Ok-clause-taken
returns-in-Ok-clause-taken c = λ host is empty.
    let x = step c.args.event.now host.state in
    let did = c.in-Ok.ensures.takes.carries host.state is.tells in
    took_step c.args.node.now c.take.new.self host is x c.take.new.out.items (did.any_moment refl host.state is.tells) (c.in-Ok.ensures.leaves.stops.fuse refl)
    (did.told refl host.state is.tells) (did.made refl) (did.outputs refl host.state is.tells ∙ ap (λ l. l ++ map shown x.outputs) empty) did.active

pub returns-in-Err-Disk-clause-taken : goal.returns-in-Err-Disk-clause-taken
returns-in-Err-Disk-clause-taken c = λ host is empty.
    let did = c.in-Err-Disk.ensures.takes.carries host.state is.tells in
    broke_step c.args.node.now c.take.new.self host is (step c.args.event.now host.state) c.take.new.out.items
    (did.any_moment refl host.state is.tells) (c.in-Err-Disk.ensures.leaves.stops.fuse refl) c.in-Err-Disk.field-0-0
    (did.cut refl host.state is.tells c.in-Err-Disk.field-0-0 (ap Err c.in-Err-Disk.field-0-is))

pub returns-in-Ok-clause-halts : goal.returns-in-Ok-clause-halts
returns-in-Ok-clause-halts c = λ host is took. c.in-Ok.ensures.halts ∙ halts_told c.args.node.now host.state is.tells c.args.event.now

pub returns-in-Err-Disk-clause-halts : goal.returns-in-Err-Disk-clause-halts
returns-in-Err-Disk-clause-halts c = λ host is took. absurd (true≢false (sym took))

pub take-requires : goal.take-requires
take-requires c = record { sound = c.requires.sound; sane = c.requires.sane }

pub returns-in-Ok-clause-sound : goal.returns-in-Ok-clause-sound
returns-in-Ok-clause-sound c = c.in-Ok.ensures.leaves.sound

pub returns-in-Err-Disk-clause-sound : goal.returns-in-Err-Disk-clause-sound
returns-in-Err-Disk-clause-sound c = c.in-Err-Disk.ensures.leaves.sound

pub returns-in-Ok-clause-running : goal.returns-in-Ok-clause-running
returns-in-Ok-clause-running c = λ took. c.in-Ok.ensures.leaves.stops.running

pub returns-in-Err-Disk-clause-running : goal.returns-in-Err-Disk-clause-running
returns-in-Err-Disk-clause-running c = λ took. absurd (true≢false (sym took))

pub returns-in-Err-Memory : goal.returns-in-Err-Memory
returns-in-Err-Memory c = record { sound = c.in-Err-Memory.ensures.leaves.sound; running = tt; taken = λ host is empty. tt; halts = λ host is. tt }

pub unreachable-requires : goal.unreachable-requires
unreachable-requires c = true≢false (sym (c.in-Err-Stopped.ensures.leaves.stopped.0 (ap Err c.in-Err-Stopped.field-0-is)) ∙ c.requires.running)

pub unreachable-unreachable : goal.unreachable-unreachable
unreachable-unreachable c = c.unreachable.type_inv
