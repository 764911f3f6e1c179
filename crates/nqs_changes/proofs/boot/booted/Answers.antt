use Rattle.std.proofs.Common.{rules, ap}
use Rattle.nqs_state.specs.State.{content}
use Rattle.nqs_rules.specs.Applied.{booted_row}
use Rattle.nqs_changes.proofs.Losses.{lost_below}
use Rattle.nqs_changes.proofs.boot.booted.Goals as goal

pub returns : goal.returns
returns c = ap (λ rs. record (content c.args.state.now) { rows = rs }) (c.revise.ensures.revised booted_row (λ k v w b t has call.
    let few = lost_below (content c.args.state.now) c.requires.order v has in search rules))
