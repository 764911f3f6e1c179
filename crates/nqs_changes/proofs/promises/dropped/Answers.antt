use Rattle.std.proofs.Common.{◌≡◌, ◌∙◌, ap}
use Rattle.nqs_state.specs.State.{content}
use Rattle.nqs_state.specs.Keys.{is_promise}
use Rattle.nqs_base_tables.specs.Table.{without_first}
use Rattle.nqs_changes.proofs.promises.dropped.Goals as goal

pub returns : goal.returns
returns c =
    let k = c.args.key.now in
    let left : c.remove_key.new.self.items ≡ without_first (is_promise k) c.args.state.now.promises.items =
    c.remove_key.ensures.items ∙ ap (λ t. without_first (is_promise k) t.items) c.close.ensures.promises in
    (λ j. record (c.close.ensures.content j) { promises = left j })
