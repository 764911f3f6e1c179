use Rattle.std.proofs.Common.{◌∙◌, refl, arith}
use Rattle.nqs_snapshot.proofs.Marks.{one_more}
use Rattle.nqs_snapshot.proofs.differ.add_row_arrivals.Goals as goal

pub loop-place-preserved : goal.loop-place-preserved
loop-place-preserved c = (
  c.loop-place.invariant.0
      ∙ one_more (λ n. n.0) (λ r. r.arrival) c.loop-place.numbers.items _ c.args.rows.now.items c.loop-place.place c.at.result.now _ c.at.ensures
      c.in_ok-push.ensures.items
      refl,
  omega (arith, c.loop-place-test.true, c.len.ensures),
)
