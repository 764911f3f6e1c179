use Rattle.std.proofs.Common.{true, false, sym, subst}
use Rattle.nqs_outside.specs.Streams.{sunk}
use Rattle.nqs_network_runs.specs.Running.{Runs}
use Rattle.nqs_network_runs.proofs.run.run.Goals as goal

pub returns-then-summary : goal.returns-then-summary
returns-then-summary g c =
    let sink = sunk g.K.Sink.taken g.K.Sink.faults g.K.Sink.stalls c.args.out.now c.summarize.new.out in
    subst (λ summary. Runs summary c.args.site.now c.args.events.now sink c.args.left.now.items c.finish.new.left.items c.finish.result) (sym c.if-summary.true)
    (c.finish.ensures true c.args.site.now c.args.events.now sink c.summarize.ensures)

pub returns-else-summary : goal.returns-else-summary
returns-else-summary g c =
    let sink = sunk g.K.Sink.taken g.K.Sink.faults g.K.Sink.stalls c.args.out.now c.transcribe.new.out in
    subst (λ summary. Runs summary c.args.site.now c.args.events.now sink c.args.left.now.items c.finish-else-summary.new.left.items
    c.finish-else-summary.result) (sym c.if-summary.false) (c.finish-else-summary.ensures false c.args.site.now c.args.events.now sink c.transcribe.ensures)
