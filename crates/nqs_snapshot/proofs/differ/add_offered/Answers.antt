use Rattle.std.proofs.Common.{◌∙◌, arith}
use Rattle.nqs_rules.specs.Fits.{is_offered_hand}
use Rattle.nqs_snapshot.proofs.Marks.{one_if}
use Rattle.nqs_snapshot.proofs.differ.add_offered.Goals as goal

pub loop-place-preserved : goal.loop-place-preserved
loop-place-preserved c = (
  c.loop-place.invariant.0
      ∙ one_if (λ r. r.0) (λ h. h.id) is_offered_hand c.loop-place.requests.items _ c.args.hands.now.items c.loop-place.place c.at.result.now c.at.ensures
      c.in_ok-add_if_offered.ensures,
  omega (arith, c.loop-place-test.true, c.len.ensures),
)
