use Rattle.std.proofs.Common.{sym}
use Rattle.nqs_state.specs.State.{content}
use Rattle.nqs_handover.proofs.Hops.{hops_found}
use Rattle.nqs_handover.proofs.tick.repeat_offer.Goals as goal

pub add_offer-requires : goal.add_offer-requires
add_offer-requires c = hops_found (content c.args.state.now) c.requires c.args.hand.now.id c.in-Some.row.now (sym c.in-Some.ensures)
