use Rattle.std.proofs.lemmas.Result.{err_from_is_err_and}
use Rattle.nqs_state.specs.State.{content}
use Rattle.nqs_rules.specs.Rows.{queue_entry_causes}
use Rattle.nqs_rows.proofs.Refusals.{refused, host_causes}
use Rattle.nqs_rows.proofs.submit.check_into.Goals as goal

pub returns-in_err-check_job : goal.returns-in_err-check_job
returns-in_err-check_job c =
    let p = err_from_is_err_and c.from_residual.result c.from_residual.ensures.1 in
    rw (p.1, p.2) (refused (queue_entry_causes c.args.job.now c.args.queue.now) (host_causes (content c.args.state.now)) _ c.in_err-check_job.ensures)
