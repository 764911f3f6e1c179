use Rattle.std.proofs.Common.{◌≡◌, true, false, ◌∷◌, ◌++◌, [], map, length, ap, sym, ◌∙◌, append_assoc, arith}
use Rattle.std.specs.Vec.Iter.{into_iter_items}
use Rattle.std.specs.List.{list_any}
use Rattle.nqs_base_tables.specs.Table.{has_key}
use Rattle.nqs_rules.specs.InOrder.{are_distinct}
use Rattle.nqs_snapshot.proofs.Distinct.{comes_twice, comes_once}
use Rattle.nqs_snapshot.proofs.tables.fill.Goals as goal

pub returns-then-has-clause-distinct : goal.returns-then-has-clause-distinct
returns-then-has-clause-distinct g c =
    let items = c.loop-value.table.items in
    let key = g.V.Keyed.key_of in
    let eq = g.K.PartialEq.eq in
    let rest = into_iter_items c.next.new.self in
    let v = c.in-Some.value in
    let whole : c.args.values ≡ items ++ (v ∷ rest) = c.loop-value.invariant.2 ∙ ap (λ l. items ++ l) c.in-Some.ensures.steps.0 in
    let there : list_any (has_key eq key (key v)) items ≡ true =
    ap (λ k. list_any (has_key eq key k) items) (sym c.key.ensures) ∙ sym c.has.ensures ∙ c.if-has.true in
    sym (ap (λ l. are_distinct eq (map key l)) whole ∙ comes_twice eq key g.met.K.Key.exact (g.met.K.Eq.laws.refl) items v rest there)

pub loop-value-preserved : goal.loop-value-preserved
loop-value-preserved g c =
    let items = c.loop-value.table.items in
    let key = g.V.Keyed.key_of in
    let eq = g.K.PartialEq.eq in
    let rest = into_iter_items c.next.new.self in
    let v = c.in-Some.value in
    let whole : c.args.values ≡ items ++ (v ∷ rest) = c.loop-value.invariant.2 ∙ ap (λ l. items ++ l) c.in-Some.ensures.steps.0 in
    let none : list_any (has_key eq key (key v)) items ≡ false =
    ap (λ k. list_any (has_key eq key k) items) (sym c.key.ensures) ∙ sym c.has.ensures ∙ c.if-has.false in (
      tt,
      tt,
      whole ∙ sym (append_assoc items (v ∷ []) rest) ∙ ap (λ l. l ++ rest) (sym c.push.ensures.items),
      ap (λ l. are_distinct eq (map key l)) c.push.ensures.items
          ∙ comes_once eq key g.met.K.Key.exact (g.met.K.Eq.laws.refl) items v none c.loop-value.invariant.3,
      omega (arith, c.loop-value.invariant.4, ap length c.in-Some.ensures.steps.0, c.push.ensures.room),
    )
