use Rattle.std.proofs.Common.{◌≡◌, Bool, true, false, sym, subst, ◌∙◌}
use Rattle.nqs_outside.specs.Streams.{fed, sunk}
use Rattle.nqs_cli.specs.Runs.{RunsHere, Uses, has_disks, place_at, seen}
use Rattle.nqs_cli.proofs.dispatch.run_here.Goals as goal

pub returns-then-has_disks : goal.returns-then-has_disks
returns-then-has_disks g c =
    let was = g.M.Machine.told c.args.machine.now in
    let now = g.M.Machine.told c.run_looking.new.machine in
    let e = seen g.M.D.Disk.tells was now (fed g.S.Source.left g.S.Source.faults c.args.input.now c.run_looking.new.input)
    (sunk g.K.Sink.taken g.K.Sink.faults g.K.Sink.stalls c.args.out.now c.run_looking.new.out) in
    let yes : has_disks c.args.form ≡ true = sym c.has_disks.ensures ∙ c.if-has_disks.true in
    subst (λ (b : Bool). Uses was now (λ parts. RunsHere b e (place_at c.args.station.now) c.args.form parts c.run_looking.result)) (sym yes)
    c.run_looking.ensures

pub returns-else-has_disks : goal.returns-else-has_disks
returns-else-has_disks g c =
    let was = g.M.Machine.told c.args.machine.now in
    let now = g.M.Machine.told c.run_at.new.machine in
    let e = seen g.M.D.Disk.tells was now (fed g.S.Source.left g.S.Source.faults c.args.input.now c.run_at.new.input)
    (sunk g.K.Sink.taken g.K.Sink.faults g.K.Sink.stalls c.args.out.now c.run_at.new.out) in
    let no : has_disks c.args.form ≡ false = sym c.has_disks.ensures ∙ c.if-has_disks.false in
    subst (λ (b : Bool). Uses was now (λ parts. RunsHere b e (place_at c.args.station.now) c.args.form parts c.run_at.result)) (sym no) c.run_at.ensures
