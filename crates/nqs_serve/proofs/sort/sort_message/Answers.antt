use Rattle.std.proofs.Common.{sym, ◌∙◌}
use Rattle.std.proofs.lemmas.Result.{IfOk-weaker}
use Rattle.nqs_serve.specs.Events.{Here}
use Rattle.nqs_serve.proofs.Sorting.{elsewhere_sorted, stranger_sorted, known_sorted}
use Rattle.nqs_serve.proofs.sort.sort_message.Goals as goal

pub returns-then-not-is_here : goal.returns-then-not-is_here
returns-then-not-is_here c =
    let here : Here = record { me = c.args.me; site = c.args.site.now } in
    elsewhere_sorted here c.args.message c.ignored.result c.ignored.ensures (sym (c.is_here.ensures c.args.site.now) ∙ c.if-not-is_here.true)

pub returns-then-not-is_known : goal.returns-then-not-is_known
returns-then-not-is_known c =
    let here : Here = record { me = c.args.me; site = c.args.site.now } in
    stranger_sorted here c.args.message c.ignored-then-not-is_known.result c.ignored-then-not-is_known.ensures
    (sym (c.is_here.ensures c.args.site.now) ∙ c.if-not-is_here.false) (sym (c.is_known.ensures c.args.me) ∙ c.if-not-is_known.true)

pub returns-else-not-is_known : goal.returns-else-not-is_known
returns-else-not-is_known c =
    let here : Here = record { me = c.args.me; site = c.args.site.now } in
    IfOk-weaker c.sort_event.result _ _ (λ s is. known_sorted here c.args.message s is
    (sym (c.is_here.ensures c.args.site.now) ∙ c.if-not-is_here.false) (sym (c.is_known.ensures c.args.me) ∙ c.if-not-is_known.false)) c.sort_event.ensures
