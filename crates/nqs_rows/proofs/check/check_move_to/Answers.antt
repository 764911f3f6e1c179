use Rattle.std.proofs.Common.{◌∙◌, sym, ◌++◌}
use Rattle.std.proofs.lemmas.Result.{err_from_is_err_and}
use Rattle.nqs_state.specs.State.{content}
use Rattle.nqs_rules.specs.Rows.{idle_causes, move_entry_causes}
use Rattle.nqs_rows.proofs.Refusals.{passed, refused, used_causes}
use Rattle.nqs_rows.proofs.check.check_move_to.Goals as goal

pub returns-in_err-check_idle : goal.returns-in_err-check_idle
returns-in_err-check_idle c =
    let p = err_from_is_err_and c.from_residual.result c.from_residual.ensures.1 in
    rw (p.1, p.2) (refused (idle_causes c.args.id.now c.args.row.now) (move_entry_causes c.args.row.now c.args.queue.now
    ++ used_causes (content c.args.state.now)) _ c.in_err-check_idle.ensures)

pub returns-in_err-check_job : goal.returns-in_err-check_job
returns-in_err-check_job c =
    let p = err_from_is_err_and c.from_residual-in_err-check_job.result c.from_residual-in_err-check_job.ensures.1 in
    let entry = move_entry_causes c.args.row.now c.args.queue.now in
    let used = used_causes (content c.args.state.now) in
    rw (p.1, p.2) (refused entry used _ c.in_err-check_job.ensures ∙ sym (passed (idle_causes c.args.id.now c.args.row.now)
    (entry ++ used) c.in_ok-check_idle.ensures))

pub returns : goal.returns
returns c =
    let entry = move_entry_causes c.args.row.now c.args.queue.now in
    let used = used_causes (content c.args.state.now) in
    c.check_arrivals.ensures ∙ sym (passed entry used c.in_ok-check_job.ensures)
    ∙ sym (passed (idle_causes c.args.id.now c.args.row.now) (entry ++ used) c.in_ok-check_idle.ensures)
