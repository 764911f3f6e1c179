use Rattle.std.proofs.Common.{◌≡◌, ◌∙◌, ap, rules}
use Rattle.nqs_base_tables.specs.Table.{best_from}
use Rattle.nqs_state.specs.State.{content}
use Rattle.nqs_rules.specs.Order.{is_greater}
use Rattle.nqs_order.specs.ByIndex.{is_candidate}
use Rattle.nqs_order.proofs.by_index.next_queue.Goals as goal

pub returns : goal.returns
returns c =
    let test = is_candidate c.args.index.now c.fewer_in_batch-batch.result c.args.now (content c.args.state.now) in
    c.best.ensures test is_greater (λ v r f. let told : r ≡ test f.shown.now = search rules in told ∙ ap test f.shows) (λ u v r f. search rules)
    ∙ ap (λ batch. best_from (is_candidate c.args.index.now batch c.args.now (content c.args.state.now)) is_greater 0 c.args.state.now.queues.items)
    c.fewer_in_batch-batch.ensures
