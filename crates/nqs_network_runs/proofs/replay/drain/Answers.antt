use Rattle.nqs_network_runs.proofs.Playing.{ends_read}
use Rattle.nqs_network_runs.proofs.replay.drain.Goals as goal

pub returns-in-Ok : goal.returns-in-Ok
returns-in-Ok g c =
    let whole = c.in-Ok.ensures.whole in
    ends_read c.args.summary c.in-Ok.input.items _ _ c.args.left.now.items c.play.new.left.items c.play.result (whole.1, whole.2, whole.0)
    (rw c.deref.ensures.value at c.play.ensures)
