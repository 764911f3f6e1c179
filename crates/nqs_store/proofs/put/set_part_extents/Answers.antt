use Rattle.std.proofs.Common.{◌∙◌, ◌+◌, ◌<◌, length, suc, ◌≡◌, drop, get_or, ap, slice_get, slice_set, Some, sym, arith}
use Rattle.std.proofs.lemmas.Option.{same_Some}
use Rattle.nqs_records.specs.Extents.{first_or}
use Rattle.nqs_store.proofs.Lists.{get_at}
use Rattle.nqs_store.proofs.Freeing.{set_next, get_next}
use Rattle.nqs_store.proofs.put.set_part_extents.Goals as goal

pub loop-place-preserved : goal.loop-place-preserved
loop-place-preserved c =
    let ps = c.args.parts.now in
    let xs = c.args.extents.now in
    let i = c.loop-place.place in
    let d = c.index-parts-place-in-loop-place.result in
    let within : i < length ps = omega (arith, c.loop-place-test.true, c.loop-place.auto.place-end) in
    let at : slice_get ps i ≡ Some (get_or ps i d) = get_at ps i d within in
    let same : get_or c.loop-place.parts i d ≡ get_or ps i d = ap (λ l. get_or l i d) c.loop-place.invariant ∙ get_next ps xs i d within in
    let d' = c.index-parts-place.result in
    let read : get_or c.loop-place.parts i d' ≡ get_or ps i d = ap (λ l. get_or l i d') c.loop-place.invariant ∙ get_next ps xs i d' within
    ∙ same_Some (get_or ps i d') (get_or ps i d) (sym (get_at ps i d' within) ∙ at) in
    let set : c.nth_or.result ≡ first_or (get_or ps i d).bytes (drop i xs) = c.nth_or.ensures ∙ ap (λ q. first_or q.bytes (drop i xs)) read in
    let next : i + 1 ≡ suc i = omega arith in
    (λ j. slice_set (c.loop-place.invariant j) i (record { path = (same j).path; bytes = set j })) ∙ set_next ps xs i (i + 1) (get_or ps i d) at next
