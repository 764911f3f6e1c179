use Rattle.std.proofs.Common.{◌+◌, ◌∙◌, ap, sym, true≢false}
use Rattle.std.proofs.lemmas.Result.{on_ok_weaker}
use Rattle.nqs_types.specs.RowStates.{is_active}
use Rattle.nqs_index.specs.Seats.{counts_for, ones_of_active, ones_of_running}
use Rattle.nqs_index.specs.Tallies.{one}
use Rattle.nqs_index.proofs.SeatLemmas.{counted_routing, counted_running}
use Rattle.nqs_index.proofs.TallyLemmas.{can_alike, adds_alike}
use Rattle.nqs_index.proofs.index.count_in.Goals as goal

pub returns-in-Routing-clause-adds : goal.returns-in-Routing-clause-adds
returns-in-Routing-clause-adds c can =
    let t = c.args.seat.now in
    let old = c.args.counters.now.items in
    let same = counted_routing t c.in-Routing.is in
    on_ok_weaker c.count_active.result
    (adds_alike (λ k. one (counts_for k t)) (λ k. ones_of_active k t) same old c.count_active.new.counters.items)
    (c.count_active.ensures (can_alike (λ k. one (counts_for k t)) (λ k. ones_of_active k t) same old can))

pub returns-in-Running-clause-adds : goal.returns-in-Running-clause-adds
returns-in-Running-clause-adds c can =
    let t = c.args.seat.now in
    let old = c.args.counters.now.items in
    let same = counted_running t c.in-Running.is in
    on_ok_weaker c.count_both.result
    (adds_alike (λ k. one (counts_for k t)) (λ k. ones_of_active k t + ones_of_running k t) same old c.count_both.new.counters.items)
    (c.count_both.ensures (can_alike (λ k. one (counts_for k t)) (λ k. ones_of_active k t + ones_of_running k t) same old can))

pub returns-in-Routing-clause-none : goal.returns-in-Routing-clause-none
returns-in-Routing-clause-none c idle = absurd (true≢false (ap is_active (sym c.in-Routing.is) ∙ idle))

pub returns-in-Running-clause-none : goal.returns-in-Running-clause-none
returns-in-Running-clause-none c idle = absurd (true≢false (ap is_active (sym c.in-Running.is) ∙ idle))
