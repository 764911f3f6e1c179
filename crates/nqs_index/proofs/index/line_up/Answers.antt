use Rattle.std.proofs.Common.{◌∙◌, sym, arith, true≢false}
use Rattle.nqs_index.specs.Classes.{line_of}
use Rattle.nqs_index.specs.QueueLines.{classes_under}
use Rattle.nqs_index.proofs.LineLemmas.{puts_one}
use Rattle.nqs_index.proofs.index.line_up.Goals as goal

pub returns-then-not-seat-clause-cost : goal.returns-then-not-seat-clause-cost
returns-then-not-seat-clause-cost g c =
    let t = c.args.seat.now in
    puts_one t.key (line_of t.class (classes_under t.queue c.args.lines.now.items)) c.args.steps.now c.args.steps.now (omega arith)

pub returns-clause-none : goal.returns-clause-none
returns-clause-none g c held = absurd (true≢false (sym c.if-not-seat.false ∙ held))
