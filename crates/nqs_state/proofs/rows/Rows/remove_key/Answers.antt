use Rattle.std.proofs.Common.{◌∙◌, ap, sym, subst, find, map}
use Rattle.nqs_base_tables.proofs.TableLemmas.{without_first-none}
use Rattle.nqs_index.specs.Indexed.{IsMore}
use Rattle.nqs_index.specs.Seats.{seat_of}
use Rattle.nqs_state.specs.Keys.{is_row}
use Rattle.nqs_state.proofs.RowLemmas.{no_row, gone}
use Rattle.nqs_state.proofs.rows.Rows.remove_key.Goals as goal

pub returns-in_default-clause-items : goal.returns-in_default-clause-items
returns-in_default-clause-items c =
    let test = is_row c.args.key.now in
    sym (without_first-none test c.args.self.now.items
    (ap (λ r. find test r.items) (sym c.self.view_is) ∙ no_row (find test c.self.inside.table.items) (sym c.in_default.is ∙ c.seat_at.ensures)))

pub invariant_of-self : goal.invariant_of-self
invariant_of-self c =
    let test = is_row c.args.key.now in
    let rows = c.self.inside.table.items in
    c.leave.ensures.stands (map seat_of c.remove_key.new.self.items) (map seat_of rows) c.self.invariant
    (subst (λ l. IsMore c.in-Some.seat (map seat_of l) (map seat_of rows)) (sym c.remove_key.ensures.items)
    (gone test rows c.in-Some.seat (sym c.in-Some.is ∙ c.seat_at.ensures)))
