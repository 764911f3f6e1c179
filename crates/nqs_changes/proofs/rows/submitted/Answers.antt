use Rattle.std.proofs.Common.{ap, ◌∙◌}
use Rattle.std.specs.List.{list_any}
use Rattle.nqs_state.specs.State.{content}
use Rattle.nqs_state.specs.Keys.{is_row}
use Rattle.nqs_rules.proofs.RowKinds.{number_new}
use Rattle.nqs_changes.proofs.rows.submitted.Goals as goal

pub push-requires-clause-absent : goal.push-requires-clause-absent
push-requires-clause-absent c =
    ap (λ r. list_any (is_row r.id) c.args.state.now.rows.items) c.new_row-row.ensures ∙ number_new (content c.args.state.now) c.requires.order
