use Rattle.std.proofs.Common.{◌-◌, ◌∙◌, ap, sym, subst, arith}
use Rattle.std.proofs.lemmas.Result.{on_ok_weaker}
use Rattle.nqs_base.proofs.Plain.{item_at}
use Rattle.nqs_index.specs.Lines.{entry_at, PutsBy}
use Rattle.nqs_index.specs.Classes.{line_of}
use Rattle.nqs_index.proofs.ClassLemmas.{put_there, line_found, line_ensured}
use Rattle.nqs_index.proofs.LineLemmas.{puts_one}
use Rattle.nqs_index.proofs.classes.put.Goals as goal

pub returns-in_err-ensure-clause-cost : goal.returns-in_err-ensure-clause-cost
returns-in_err-ensure-clause-cost g c =
    puts_one c.args.key (line_of c.args.class.now c.args.classes.now.items) c.args.steps.now c.args.steps.now (omega arith)

pub returns-clause-ok : goal.returns-clause-ok
returns-clause-ok g c = on_ok_weaker c.put_at.result
    (put_there c.args.class.now (entry_at c.args.key c.args.id) c.args.classes.now.items c.ensure.new.classes.items c.put_at.new.classes.items
    c.place_in-place.result c.in_ok-ensure.ensures.items c.place_in-place.ensures.place c.place_in-place.ensures.within)
    c.put_at.ensures.ok

pub returns-clause-cost : goal.returns-clause-cost
returns-clause-cost g c =
    let mid = c.ensure.new.classes.items in
    let class = c.args.class.now in
    let l = item_at mid c.place_in-place.result c.place_in-place.ensures.within in
    subst (λ es. PutsBy c.args.key es (c.put_at.new.steps - c.args.steps.now))
    (sym (line_found class mid c.place_in-place.result l.0 c.place_in-place.ensures.place l.1) ∙ ap (line_of class) c.in_ok-ensure.ensures.items
    ∙ line_ensured class c.args.classes.now.items)
    (c.put_at.ensures.cost l.0 l.1)
