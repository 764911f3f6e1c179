use Rattle.std.proofs.Common.{◌+◌, ◌++◌, flat_map, drop, ap, subst, sym, ◌∙◌, append_assoc, arith}
use Rattle.std.specs.List.{AllByRecursion}
use Rattle.nqs_base_tables.proofs.TableLemmas.{drop-at}
use Rattle.nqs_snapshot.proofs.field.put_rows.Goals as goal

pub loop-place-preserved : goal.loop-place-preserved
loop-place-preserved g c =
    let items = c.args.table.now.items in
    let here = drop-at items c.loop-place.place c.at.result.now c.at.ensures in
    let rest = drop (c.loop-place.place + 1) items in (
      c.loop-place.invariant.0 ∙ ap (λ l. c.loop-place.out.items ++ flat_map g.V.Put.field l) here
          ∙ sym (append_assoc c.loop-place.out.items (g.V.Put.field c.at.result.now) (flat_map g.V.Put.field rest))
          ∙ ap (λ l. l ++ flat_map g.V.Put.field rest) (sym c.in_ok-put.ensures),
      (subst (AllByRecursion g.V.Put.IsPut) here c.loop-place.invariant.1).1,
      omega (arith, c.loop-place-test.true, c.len.ensures),
    )
