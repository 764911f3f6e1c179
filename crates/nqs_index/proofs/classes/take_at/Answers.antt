use Rattle.std.proofs.Common.{◌-◌, ◌∙◌, refl, ap, sym, subst, slice_set}
use Rattle.std.proofs.lemmas.Option.{same_Some}
use Rattle.nqs_index.specs.declared.classes.ClassLine.{ClassLine}
use Rattle.nqs_index.specs.Lines.{without_entry, entry_at, TakesBy}
use Rattle.nqs_index.proofs.PlaceLemmas.{set_twice, key_kept}
use Rattle.nqs_index.proofs.classes.take_at.Goals as goal

pub exchange-requires-2-clause-same : goal.exchange-requires-2-clause-same
exchange-requires-2-clause-same g c =
    let empty : ClassLine = record { class = c.at.result.now.class; line = c.new.result } in
    rw c.exchange.ensures.items
    (key_kept (λ (l : ClassLine). l.class) c.args.classes.now.items c.args.place c.at.result.now c.exchange.new.value empty c.at.ensures c.exchange.ensures.out
    refl)

pub returns-clause-taken : goal.returns-clause-taken
returns-clause-taken g c v at =
    let x = entry_at c.args.key c.args.id in
    let ls = c.args.classes.now.items in
    let l = c.exchange.new.value in
    c.exchange-2.ensures.items
    ∙ ap (λ k. slice_set k c.args.place (record { class = l.class; line = c.take.new.self })) c.exchange.ensures.items
    ∙ set_twice ls c.args.place _ _
    ∙ (λ j. slice_set ls c.args.place (record { class = l.class; line = c.take.ensures.line j }))
    ∙ ap (λ (w : ClassLine). slice_set ls c.args.place (record { class = w.class; line = without_entry x w.line }))
    (same_Some l v (sym c.exchange.ensures.out ∙ at))

pub returns-clause-cost : goal.returns-clause-cost
returns-clause-cost g c v at =
    subst (λ (w : ClassLine). TakesBy c.args.key w.line (c.take.new.steps - c.args.steps.now))
    (same_Some c.exchange.new.value v (sym c.exchange.ensures.out ∙ at))
    c.take.ensures.cost
