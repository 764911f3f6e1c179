use Rattle.nqs_state.specs.State.{content}
use Rattle.nqs_snapshot.proofs.Standing.{in_order_stands}
use Rattle.nqs_snapshot.proofs.typed.state_stands.Goals as goal

pub returns : goal.returns
returns c = in_order_stands (content c.args.state.now) c.requires
    (c.site_stands.ensures, c.requests_stand.ensures, c.dealings_stand.ensures, c.counters_stand.ensures)
