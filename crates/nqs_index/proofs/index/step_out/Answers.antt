use Rattle.std.proofs.Common.{refl}
use Rattle.nqs_index.specs.Classes.{line_of}
use Rattle.nqs_index.specs.QueueLines.{classes_under}
use Rattle.nqs_index.proofs.LineLemmas.{takes_none}
use Rattle.nqs_index.proofs.index.step_out.Goals as goal

pub returns-then-not-seat-clause-cost : goal.returns-then-not-seat-clause-cost
returns-then-not-seat-clause-cost g c =
    let t = c.args.seat.now in
    takes_none t.key (line_of t.class (classes_under t.queue c.args.lines.now.items)) c.args.steps.now c.args.steps.now refl
