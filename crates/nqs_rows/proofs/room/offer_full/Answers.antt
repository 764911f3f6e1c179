use Rattle.std.proofs.Common.{sym, ◌∙◌}
use Rattle.nqs_state.specs.State.{content}
use Rattle.nqs_rows.proofs.Offers.{offer_finds_room}
use Rattle.nqs_rows.proofs.room.offer_full.Goals as goal

-- src/room.rt:37:1
pub returns-else-is_host_full : goal.returns-else-is_host_full
returns-else-is_host_full c =
    let room = sym c.is_host_full.ensures ∙ c.if-is_host_full.false in
    c.if-is_host_full.false ∙ sym (offer_finds_room c.args.peer c.args.low (content c.args.state.now) room)
