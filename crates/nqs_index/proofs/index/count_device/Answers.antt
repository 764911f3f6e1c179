use Rattle.std.proofs.Common.{sym, subst, OnOk}
use Rattle.nqs_index.specs.Seats.{is_of_device}
use Rattle.nqs_index.specs.Tallies.{one, CanAdd, Adds}
use Rattle.nqs_index.proofs.index.count_device.Goals as goal

pub returns-in-Some : goal.returns-in-Some
returns-in-Some c =
    let old = c.args.counters.now.items in
    let new = c.raise.new.counters.items in
    subst (λ o. CanAdd (λ k. one (is_of_device k o)) old → OnOk c.raise.result (Adds (λ k. one (is_of_device k o)) old new)) (sym c.in-Some.is) c.raise.ensures
