use Rattle.std.proofs.Common.{◌++◌, ◌∷◌, [], map, sym, subst}
use Rattle.nqs_index.specs.Indexed.{IsMore}
use Rattle.nqs_index.specs.Seats.{seat_of}
use Rattle.nqs_index.proofs.SeatLemmas.{seat_added}
use Rattle.nqs_state.proofs.rows.Rows.push.Goals as goal

pub invariant_of-self : goal.invariant_of-self
invariant_of-self c =
    let rows = c.self.inside.table.items in
    c.enter.ensures.stands (map seat_of rows) c.self.invariant
    (subst (λ l. IsMore c.of-seat.result (map seat_of rows) (map seat_of l)) (sym c.push.ensures.items)
    (subst (λ t. IsMore t (map seat_of rows) (map seat_of (rows ++ c.args.row ∷ []))) (sym c.of-seat.ensures) (seat_added c.args.row rows)))
