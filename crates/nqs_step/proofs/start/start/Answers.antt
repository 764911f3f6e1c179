use Rattle.std.proofs.Common.{◌≡◌, ◌∙◌, Some, slice_get, sym, ap}
use Rattle.nqs_state.specs.State.{content}
use Rattle.nqs_rules.specs.Picked.{row_place}
use Rattle.nqs_handover.proofs.Hops.{hops_at}
use Rattle.nqs_step.proofs.Orderly.{start_left, hops_left}
use Rattle.nqs_step.proofs.Picks.{picked_ready}
use Rattle.nqs_step.proofs.start.start.Goals as goal

pub start_row-requires-clause-starts : goal.start_row-requires-clause-starts
start_row-requires-clause-starts c =
    let s = content c.args.state.now in
    let choice = c.in-Some.choice in
    let row = c.in-Some-get_at.row.now in
    let there : slice_get s.rows (row_place choice) ≡ Some row = ap (slice_get s.rows) (sym c.row_place.ensures) ∙ sym c.in-Some-get_at.ensures in
    start_left s c.requires (row_place choice) row there (picked_ready c.args.now s choice row (sym c.in-Some.ensures) there)

pub start_row-requires-clause-hops : goal.start_row-requires-clause-hops
start_row-requires-clause-hops c =
    hops_at (content c.args.state.now) (hops_left (content c.args.state.now) c.requires) c.row_place.result c.in-Some-get_at.row.now
    (sym c.in-Some-get_at.ensures)
