use Rattle.std.proofs.Common.{◌≡◌, ◌∙◌, ap, rules}
use Rattle.nqs_state.specs.State.{content}
use Rattle.nqs_order.specs.ByIndex.{has_first}
use Rattle.nqs_order.proofs.by_index.any_first.Goals as goal

pub returns : goal.returns
returns c =
    let test = has_first c.args.index.now c.args.queue.now c.args.now (content c.args.state.now) c.args.any_open in
    c.any.ensures test (λ v r f. let told : r ≡ test f.shown.now = search rules in told ∙ ap test f.shows)
