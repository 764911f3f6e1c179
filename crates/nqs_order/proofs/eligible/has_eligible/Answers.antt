use Rattle.std.proofs.Common.{◌∙◌, sym}
use Rattle.nqs_rules.specs.Order.{is_eligible, comes_before}
use Rattle.nqs_rules.proofs.BestLaws.{best_is_some}
use Rattle.nqs_state.specs.State.{content}
use Rattle.nqs_order.proofs.eligible.has_eligible.Goals as goal

pub returns : goal.returns
returns c = c.any_eligible.ensures ∙ sym (best_is_some (is_eligible c.args.queue.now c.args.now (content c.args.state.now)) comes_before
    0 (content c.args.state.now).rows)
