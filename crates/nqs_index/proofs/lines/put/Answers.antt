use Rattle.std.proofs.Common.{◌-◌, ◌∙◌, ap, sym, subst, arith}
use Rattle.std.proofs.lemmas.Result.{on_ok_weaker}
use Rattle.nqs_base.specs.Same.{name_eq}
use Rattle.nqs_base.proofs.Plain.{item_at}
use Rattle.nqs_index.specs.Lines.{entry_at, PutsBy}
use Rattle.nqs_index.specs.Classes.{entered_in, line_of}
use Rattle.nqs_index.specs.QueueLines.{entered_if, classes_under}
use Rattle.nqs_index.proofs.LineLemmas.{puts_one}
use Rattle.nqs_index.proofs.QueueLineLemmas.{became_at, lines_found}
use Rattle.nqs_index.proofs.lines.put.Goals as goal

pub returns-in_err-ensure-clause-cost : goal.returns-in_err-ensure-clause-cost
returns-in_err-ensure-clause-cost g c =
    puts_one c.args.key (line_of c.args.class.now (classes_under c.args.queue.now c.args.lines.now.items)) c.args.steps.now c.args.steps.now (omega arith)

pub returns-clause-ok : goal.returns-clause-ok
returns-clause-ok g c =
    let x = entry_at c.args.key c.args.id in
    on_ok_weaker c.put_here.result
    (λ becomes q. became_at (entered_in c.args.class.now x) c.args.queue.now c.ensure.new.lines.items c.put_here.new.lines.items c.place_in-place.result
    c.place_in-place.ensures.place c.place_in-place.ensures.within becomes q
    ∙ ap (entered_if (name_eq q c.args.queue.now) c.args.class.now x) (c.in_ok-ensure.ensures.classes q))
    c.put_here.ensures.ok

pub returns-clause-cost : goal.returns-clause-cost
returns-clause-cost g c =
    let mid = c.ensure.new.lines.items in
    let queue = c.args.queue.now in
    let v = item_at mid c.place_in-place.result c.place_in-place.ensures.within in
    subst (λ ls. PutsBy c.args.key (line_of c.args.class.now ls) (c.put_here.new.steps - c.args.steps.now))
    (sym (lines_found queue mid c.place_in-place.result v.0 c.place_in-place.ensures.place v.1) ∙ c.in_ok-ensure.ensures.classes queue)
    (c.put_here.ensures.cost v.0 v.1)
