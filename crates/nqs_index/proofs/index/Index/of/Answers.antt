use Rattle.std.proofs.Common.{◌+◌, ◌∙◌, subst, take, arith}
use Rattle.nqs_index.specs.Indexed.{Stands}
use Rattle.nqs_index.proofs.StandsLemmas.{more_taken, all_taken, taken_within, none_later_in, none_in_front_of}
use Rattle.nqs_index.proofs.index.Index.of.Goals as goal

pub returns-in_err-enter-clause-rises : goal.returns-in_err-enter-clause-rises
returns-in_err-enter-clause-rises g c =
    let a = c.loop-place.invariant.rises in
    let b = c.in_err-enter.ensures.rises in
    omega (arith, a, b)

pub returns-in_err-enter-clause-cost : goal.returns-in_err-enter-clause-cost
returns-in_err-enter-clause-cost g c =
    let seats = c.args.seats.now in
    let n = c.loop-place.place in
    let t = c.index-seats-place.result in
    let a = c.loop-place.invariant.cost in
    let one = c.in_err-enter.ensures.cost.last
    (none_later_in c.loop-place.index (take n seats) t.key c.loop-place.invariant.stands
    (none_in_front_of seats n t c.requires (omega arith) c.index-seats-place.is) t.queue t.class) in
    omega (arith, a, one)

pub loop-place-preserved : goal.loop-place-preserved
loop-place-preserved g c =
    let seats = c.args.seats.now in
    let n = c.loop-place.place in
    let t = c.index-seats-place.result in
    let within = taken_within seats (n + 1) in
    record {
      within = omega arith;
      stands = c.in_ok-enter.ensures.stands (take n seats) (take (n + 1) seats) c.loop-place.invariant.stands
          (more_taken seats n t (omega arith) c.index-seats-place.is) (omega (arith, within));
      most = c.in_ok-enter.ensures.most ∙ c.loop-place.invariant.most;
      rises =
          let a = c.loop-place.invariant.rises in
          let b = c.in_ok-enter.ensures.rises in
          omega (arith, a, b);
      cost =
          let a = c.loop-place.invariant.cost in
          let one = c.in_ok-enter.ensures.cost.last
          (none_later_in c.loop-place.index (take n seats) t.key c.loop-place.invariant.stands
          (none_in_front_of seats n t c.requires (omega arith) c.index-seats-place.is) t.queue t.class) in
          omega (arith, a, one);
    }

pub returns-clause-stands : goal.returns-clause-stands
returns-clause-stands g c =
    subst (Stands c.loop-place.index) (all_taken c.args.seats.now c.loop-place.place (omega arith)) c.loop-place.invariant.stands

pub returns-clause-most : goal.returns-clause-most
returns-clause-most g c few =
    let m = c.most_of-most.ensures few in
    let i = c.loop-place.invariant.most in
    omega (arith, m, i)
