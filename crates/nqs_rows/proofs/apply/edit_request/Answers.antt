use Rattle.std.proofs.Common.{rules, ap, ◌∙◌}
use Rattle.nqs_state.specs.State.{content}
use Rattle.nqs_rules.specs.Rows.{change_meant}
use Rattle.nqs_rows.specs.OneRow.{row_edited}
use Rattle.nqs_rows.proofs.apply.edit_request.Goals as goal

pub returns : goal.returns
returns c =
    let s = content c.args.state.now in
    let f = row_edited c.args.edit.now s.arrivals in
    ap (λ rs. record s { rows = rs }) (c.change.ensures.changed f (λ v w found ran. search rules)) ∙ ap (λ m. change_meant m f s) c.in-Some.ensures
