use Rattle.std.proofs.Common.{◌∙◌, refl, sym, ap, subst}
use Rattle.nqs_index.specs.Lines.{NoneLater, entry_at, placed}
use Rattle.nqs_index.proofs.LineLemmas.{inserted, last_belongs}
use Rattle.nqs_index.proofs.line.Line.append.Goals as goal

pub invariant_of-self-2 : goal.invariant_of-self-2
invariant_of-self-2 c =
    let x = entry_at c.args.key c.args.id in
    let es = c.self.inside.entries.items in
    inserted x c.insert.new.self.items es es c.count-end.result c.in_ok-insert.ensures.items refl
    (last_belongs x es c.count-end.result c.count-end.ensures (subst (NoneLater c.args.key) (sym c.self.view_is) c.requires)) c.self.invariant

pub returns-clause-ok : goal.returns-clause-ok
returns-clause-ok c =
    let x = entry_at c.args.key c.args.id in
    let es = c.self.inside.entries.items in
    c.in_ok-insert.ensures.items
    ∙ last_belongs x es c.count-end.result c.count-end.ensures (subst (NoneLater c.args.key) (sym c.self.view_is) c.requires)
    ∙ ap (placed x) c.self.view_is

pub returns-clause-order : goal.returns-clause-order
returns-clause-order c = invariant_of-self-2 c
