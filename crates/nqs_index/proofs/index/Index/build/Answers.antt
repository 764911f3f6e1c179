use Rattle.std.proofs.Common.{◌≡◌, ◌∙◌, length, map, sym, subst, ap, arith}
use Rattle.std.specs.List.Sorted.{IsPermutation}
use Rattle.std.proofs.lemmas.List.{length-map}
use Rattle.std.proofs.lemmas.List.Sorted.{length_permutation}
use Rattle.std.proofs.lemmas.Result.{IfOk-weaker}
use Rattle.nqs_index.specs.Indexed.{Stands, MayHave}
use Rattle.nqs_index.specs.Seats.{seat_of, StandInOrder}
use Rattle.nqs_index.proofs.SeatLemmas.{permuted}
use Rattle.nqs_index.proofs.index.Index.build.Goals as goal

pub of-requires : goal.of-requires
of-requires g c = subst StandInOrder (sym c.deref.ensures.value) c.sort.ensures.order

pub returns-clause-stands : goal.returns-clause-stands
returns-clause-stands g c =
    let seats = map seat_of c.args.rows.now.items in
    let sorted = c.deref.result.now in
    let moved : IsPermutation seats sorted
    = subst (IsPermutation seats) (sym c.deref.ensures.value)
    (subst (λ ts. IsPermutation ts c.sort.new.seats.items) c.in_ok-seats.ensures c.sort.ensures.permutation) in
    IfOk-weaker c.of.result (λ i. Stands i sorted) (λ i. Stands i seats) (λ i stands. permuted i seats sorted moved stands) c.of.ensures.stands

pub returns-clause-most : goal.returns-clause-most
returns-clause-most g c =
    let rows = c.args.rows.now.items in
    let sorted = c.deref.result.now in
    let many : length sorted ≡ length rows
    = ap length c.deref.ensures.value ∙ length_permutation _ _ c.sort.ensures.permutation
    ∙ ap length c.in_ok-seats.ensures ∙ length-map rows seat_of in
    IfOk-weaker c.of.result (λ i. MayHave (length sorted) i) (λ i. MayHave (length rows) i) (λ i most. subst (λ n. MayHave n i) many most) c.of.ensures.most

pub returns-clause-cost : goal.returns-clause-cost
returns-clause-cost g c =
    let rows = c.args.rows.now.items in
    let sorted = c.deref.result.now in
    let many : length sorted ≡ length rows
    = ap length c.deref.ensures.value ∙ length_permutation _ _ c.sort.ensures.permutation
    ∙ ap length c.in_ok-seats.ensures ∙ length-map rows seat_of in
    let a = c.of.ensures.cost in
    omega (arith, a, many)
