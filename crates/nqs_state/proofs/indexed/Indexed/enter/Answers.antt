use Rattle.std.proofs.Common.{map, arith}
use Rattle.std.proofs.lemmas.List.{length-map}
use Rattle.nqs_index.specs.Seats.{seat_of}
use Rattle.nqs_state.proofs.indexed.Indexed.enter.Goals as goal

pub returns-in-Ok-clause-stands : goal.returns-in-Ok-clause-stands
returns-in-Ok-clause-stands c ts stands more =
    let rows = c.args.table.now.items in
    let many = c.len-few.ensures in
    let same = length-map rows seat_of in
    c.thin.ensures.stands (c.in-Ok.ensures.stands ts (map seat_of rows) stands more (omega (arith, many, same)))
