use Rattle.std.proofs.Common.{◌∙◌, ap, sym, find, map}
use Rattle.std.specs.Fn.{FnOnceReturnsAtMut}
use Rattle.nqs_base_tables.specs.Table.{change_first, without_first}
use Rattle.nqs_base_tables.proofs.TableLemmas.{change_first-none}
use Rattle.nqs_index.specs.Seats.{seat_of}
use Rattle.nqs_state.specs.Keys.{is_row}
use Rattle.nqs_state.proofs.RowLemmas.{no_row, gone, still_there, changed}
use Rattle.nqs_state.proofs.rows.Rows.change.Goals as goal

pub returns-in_default-clause-changed : goal.returns-in_default-clause-changed
returns-in_default-clause-changed g c does says =
    let test = is_row c.args.key.now in
    sym (change_first-none test does c.args.self.now.items
    (ap (λ r. find test r.items) (sym c.self.view_is) ∙ no_row (find test c.self.inside.table.items) (sym c.in_default.is ∙ c.seat_at.ensures)))

pub unreachable-requires : goal.unreachable-requires
unreachable-requires g c =
    still_there c.args.key.now c.self.inside.table.items c.change-2.new.self.items (λ v w. FnOnceReturnsAtMut g.F.FnOnce c.args.f v tt w) c.requires.keeps
    c.change-2.ensures.made c.in-Some.before (sym c.in-Some.is ∙ c.seat_at.ensures) (sym c.in_default-seat_at.is ∙ c.seat_at-2.ensures)

pub invariant_of-self-2 : goal.invariant_of-self-2
invariant_of-self-2 g c =
    let test = is_row c.args.key.now in
    let rows = c.self.inside.table.items in
    let before = sym c.in-Some.is ∙ c.seat_at.ensures in
    c.reseat.ensures.stands (map seat_of (without_first test rows)) (map seat_of rows) c.self.invariant
    (gone test rows c.in-Some.before before)
    (changed c.args.key.now rows c.change-2.new.self.items (λ v w. FnOnceReturnsAtMut g.F.FnOnce c.args.f v tt w) c.requires.keeps c.change-2.ensures.made
    c.in-Some.before before c.in-Some-seat_at.after (sym c.in-Some-seat_at.is ∙ c.seat_at-2.ensures))

pub returns-clause-changed : goal.returns-clause-changed
returns-clause-changed g c does says =
    c.change-2.ensures.changed does (λ v w there. says v w (ap (λ r. find (is_row c.args.key.now) r.items) (sym c.self.view_is) ∙ there))
    ∙ ap (λ r. change_first (is_row c.args.key.now) does r.items) c.self.view_is

pub returns-then-not-is_there-clause-changed : goal.returns-then-not-is_there-clause-changed
returns-then-not-is_there-clause-changed g c does says =
    c.change.ensures.changed does (λ v w there. says v w (ap (λ r. find (is_row c.args.key.now) r.items) (sym c.self.view_is) ∙ there))
    ∙ ap (λ r. change_first (is_row c.args.key.now) does r.items) c.self.view_is
