use Rattle.std.proofs.Common.{◌-◌, sym, subst, refl}
use Rattle.nqs_base.proofs.Plain.{item_at}
use Rattle.nqs_index.specs.Lines.{entry_at, TakesBy}
use Rattle.nqs_index.specs.Classes.{line_of}
use Rattle.nqs_index.proofs.ClassLemmas.{line_found, taken_there, taken_nowhere}
use Rattle.nqs_index.proofs.LineLemmas.{takes_none}
use Rattle.nqs_index.proofs.classes.take_in.Goals as goal

pub returns-in-Some-clause-items : goal.returns-in-Some-clause-items
returns-in-Some-clause-items g c =
    taken_there c.args.class.now (entry_at c.args.key c.args.id) c.args.classes.now.items c.take_at.new.classes.items c.in-Some.place
    (sym c.in-Some.ensures.place) c.in-Some.ensures.within c.take_at.ensures.taken

pub returns-in-Some-clause-cost : goal.returns-in-Some-clause-cost
returns-in-Some-clause-cost g c =
    let ls = c.args.classes.now.items in
    let l = item_at ls c.in-Some.place c.in-Some.ensures.within in
    subst (λ es. TakesBy c.args.key es (c.take_at.new.steps - c.args.steps.now))
    (sym (line_found c.args.class.now ls c.in-Some.place l.0 (sym c.in-Some.ensures.place) l.1))
    (c.take_at.ensures.cost l.0 l.1)

pub returns-in-None-clause-items : goal.returns-in-None-clause-items
returns-in-None-clause-items g c = taken_nowhere c.args.class.now (entry_at c.args.key c.args.id) c.args.classes.now.items (sym c.in-None.ensures.place)

pub returns-in-None-clause-cost : goal.returns-in-None-clause-cost
returns-in-None-clause-cost g c = takes_none c.args.key (line_of c.args.class.now c.args.classes.now.items) c.args.steps.now c.args.steps.now refl
