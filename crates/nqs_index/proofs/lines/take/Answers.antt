use Rattle.std.proofs.Common.{◌-◌, refl, sym, subst}
use Rattle.nqs_base.proofs.Plain.{item_at}
use Rattle.nqs_index.specs.Lines.{entry_at, TakesBy}
use Rattle.nqs_index.specs.Classes.{line_of, taken_from}
use Rattle.nqs_index.specs.QueueLines.{classes_under}
use Rattle.nqs_index.proofs.LineLemmas.{takes_none}
use Rattle.nqs_index.proofs.QueueLineLemmas.{became_at, lines_found, nothing_there}
use Rattle.nqs_index.proofs.lines.take.Goals as goal

pub returns-in-Some-clause-classes : goal.returns-in-Some-clause-classes
returns-in-Some-clause-classes g c =
    became_at (taken_from c.args.class.now (entry_at c.args.key c.args.id)) c.args.queue.now c.args.lines.now.items c.take_here.new.lines.items
    c.in-Some.place (sym c.in-Some.ensures.place) c.in-Some.ensures.within c.take_here.ensures.classes

pub returns-in-Some-clause-cost : goal.returns-in-Some-clause-cost
returns-in-Some-clause-cost g c =
    let ls = c.args.lines.now.items in
    let v = item_at ls c.in-Some.place c.in-Some.ensures.within in
    subst (λ ls. TakesBy c.args.key (line_of c.args.class.now ls) (c.take_here.new.steps - c.args.steps.now))
    (sym (lines_found c.args.queue.now ls c.in-Some.place v.0 (sym c.in-Some.ensures.place) v.1))
    (c.take_here.ensures.cost v.0 v.1)

pub returns-in-None-clause-classes : goal.returns-in-None-clause-classes
returns-in-None-clause-classes g c =
    nothing_there (taken_from c.args.class.now (entry_at c.args.key c.args.id)) c.args.queue.now c.args.lines.now.items refl (sym c.in-None.ensures.place)

pub returns-in-None-clause-cost : goal.returns-in-None-clause-cost
returns-in-None-clause-cost g c =
    takes_none c.args.key (line_of c.args.class.now (classes_under c.args.queue.now c.args.lines.now.items)) c.args.steps.now c.args.steps.now refl
