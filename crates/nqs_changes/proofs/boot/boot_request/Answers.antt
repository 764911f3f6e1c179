use Rattle.std.proofs.Common.{◌≡◌, true, rules, sym, ap, ◌∙◌, if◌then◌else◌}
use Rattle.nqs_state.specs.State.{content}
use Rattle.nqs_state.specs.Least.{runs_now}
use Rattle.nqs_rules.specs.Edits.{change_row, drop_row}
use Rattle.nqs_rules.specs.Fits.{row_passes}
use Rattle.nqs_rules.specs.Applied.{may_start_again, lost_row}
use Rattle.nqs_changes.proofs.Losses.{lost_found}
use Rattle.nqs_changes.proofs.boot.boot_request.Goals as goal

pub returns-then-row_may_start_again : goal.returns-then-row_may_start_again
returns-then-row_may_start_again c =
    let s = content c.args.state.now in
    let id = c.args.id.now in
    let run : row_passes runs_now id s ≡ true = sym c.row_runs.ensures ∙ c.if-not-row_runs.false in
    let again : row_passes may_start_again id s ≡ true = sym c.row_may_start_again.ensures ∙ c.if-row_may_start_again.true in
    ap (λ rs. record s { rows = rs }) (c.change.ensures.changed lost_row (λ v w found ran.
    let few = lost_found s c.requires.order id v found in search rules))
    ∙ sym (λ j. if run j then (if again j then change_row id lost_row s else drop_row id s) else s)
