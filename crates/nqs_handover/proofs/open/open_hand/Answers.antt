use Rattle.std.proofs.Common.{sym}
use Rattle.nqs_state.specs.State.{content}
use Rattle.nqs_handover.proofs.Hops.{hops_at}
use Rattle.nqs_handover.proofs.open.open_hand.Goals as goal

pub offer_row-requires : goal.offer_row-requires
offer_row-requires c = hops_at (content c.args.state.now) c.requires c.args.row c.in-Some.row.now (sym c.in-Some.ensures)
