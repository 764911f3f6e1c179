use Rattle.std.proofs.Common.{rules, ap, ◌+◌}
use Rattle.nqs_state.specs.State.{content}
use Rattle.nqs_rules.specs.Applied.{moved_local}
use Rattle.nqs_changes.proofs.Losses.{hops_below}
use Rattle.nqs_changes.proofs.rows.moved.Goals as goal

pub returns : goal.returns
returns c =
    let s = content c.args.state.now in
    ap (λ rs. record s { rows = rs; arrivals = s.arrivals + 1 }) (c.change.ensures.changed (moved_local c.args.queue (s.arrivals + 1)) (λ v w found ran.
    let few = hops_below s c.args.id v c.requires.may found in search rules))
