use Rattle.std.proofs.Common.{◌∙◌, sym, subst, map, true≢false}
use Rattle.nqs_index.specs.Indexed.{IsMore, Stands}
use Rattle.nqs_index.specs.Seats.{seat_of}
use Rattle.nqs_index.proofs.SeatLemmas.{same_more, same_stands}
use Rattle.nqs_state.proofs.IndexedLemmas.{there_then}
use Rattle.nqs_state.proofs.indexed.Indexed.reseat.Goals as goal

pub returns-then-is-clause-stands : goal.returns-then-is-clause-stands
returns-then-is-clause-stands c ts us stands one other =
    let vs = map seat_of c.args.table.now.items in
    let same = c.is.ensures.is c.if-is.true in
    there_then (λ i. Stands i us) (λ i. Stands i vs) c.args.self.now
    (λ i h. same_stands i us vs (same_more c.args.before.now ts us vs one (subst (λ t. IsMore t ts vs) (sym same) other)) h) stands

pub returns-clause-stands : goal.returns-clause-stands
returns-clause-stands c ts us stands one other = c.enter.ensures.stands ts (c.leave.ensures.stands ts us stands one) other

pub returns-clause-same : goal.returns-clause-same
returns-clause-same c same = absurd (true≢false (sym (c.is.ensures.same same) ∙ c.if-is.false))
