use Rattle.std.proofs.Common.{◌≡◌, ◌+◌, true, false, ◌&&◌, drop, ap, subst, sym, ◌∙◌, arith}
use Rattle.std.specs.List.{AllByRecursion, list_all}
use Rattle.nqs_state.specs.State.{content}
use Rattle.nqs_base_tables.proofs.TableLemmas.{drop-at, list_all-drop}
use Rattle.nqs_snapshot.proofs.order.all_right.Goals as goal

pub returns-then-not-is_right : goal.returns-then-not-is_right
returns-then-not-is_right g c =
    let right = g.V.Right.right (content c.args.state.now) in
    let items = c.args.table.now.items in
    let fails : right c.at.result.now ≡ false = sym c.is_right.ensures ∙ c.if-not-is_right.true in
    sym (ap (λ b. b && list_all right (drop (c.loop-place.place + 1) items)) fails)
    ∙ sym (list_all-drop right items c.loop-place.place c.at.result.now c.at.ensures) ∙ c.loop-place.invariant.0

pub loop-place-preserved : goal.loop-place-preserved
loop-place-preserved g c =
    let right = g.V.Right.right (content c.args.state.now) in
    let items = c.args.table.now.items in
    let holds : right c.at.result.now ≡ true = sym c.is_right.ensures ∙ c.if-not-is_right.false in (
      sym (ap (λ b. b && list_all right (drop (c.loop-place.place + 1) items)) holds)
          ∙ sym (list_all-drop right items c.loop-place.place c.at.result.now c.at.ensures) ∙ c.loop-place.invariant.0,
      (subst (AllByRecursion g.V.Put.IsPut) (drop-at items c.loop-place.place c.at.result.now c.at.ensures) c.loop-place.invariant.1).1,
      omega (arith, c.loop-place-test.true, c.len.ensures),
    )
