use Rattle.std.proofs.Common.{◌≡◌, ◌+◌, arith, ap}
use Rattle.std.proofs.lemmas.Result.{on_ok_weaker}
use Rattle.nqs_index.specs.Tallies.{count_of, one, tally_eq, tally_equiv}
use Rattle.nqs_index.proofs.TallyLemmas.{count_raised}
use Rattle.nqs_index.proofs.tally.raise.Goals as goal

pub returns : goal.returns
returns c can =
    let tally = c.args.tally.now in
    let old = c.args.counters.now.items in
    let all = can tally in
    let itself : one (tally_eq tally tally) ≡ 1 = ap one (tally_equiv.refl tally) in
    let is : c.next-count.result ≡ count_of tally old + 1 = c.next-count.ensures (omega (arith, all, itself)) in
    on_ok_weaker c.set.result (λ says k. count_raised k tally old c.set.new.counters.items c.next-count.result is (says k)) c.set.ensures
