use Rattle.std.proofs.Common.{subst, sym, arith}
use Rattle.std.specs.List.{AllByRecursion}
use Rattle.nqs_base_tables.proofs.TableLemmas.{drop-at}
use Rattle.nqs_snapshot.proofs.typed.rows_stand.Goals as goal

pub loop-place-preserved : goal.loop-place-preserved
loop-place-preserved g c =
    let items = c.args.table.now.items in
    let here = drop-at items c.loop-place.place c.at.result.now c.at.ensures in (
      λ rest. c.loop-place.invariant.0 (subst (AllByRecursion g.V.Typed.IsTyped) (sym here) (c.stands.ensures, rest)),
      omega (arith, c.loop-place-test.true, c.len.ensures),
    )
