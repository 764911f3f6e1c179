use Rattle.std.proofs.Common.{◌∙◌, sym}
use Rattle.std.proofs.lemmas.Result.{err_from_is_err_and}
use Rattle.nqs_types.specs.declared.rule.Entry.TheVariants.{FromPipe}
use Rattle.nqs_state.specs.State.{content}
use Rattle.nqs_rules.specs.Rows.{job_causes}
use Rattle.nqs_rows.proofs.Refusals.{passed, refused}
use Rattle.nqs_handover.specs.Offers.{host_causes}
use Rattle.nqs_handover.proofs.offer.check_found.Goals as goal

pub returns-in_err-check_job : goal.returns-in_err-check_job
returns-in_err-check_job c =
    let p = err_from_is_err_and c.from_residual.result c.from_residual.ensures.1 in
    rw (p.1, p.2) (refused (job_causes c.args.queue.now c.args.job.now FromPipe) (host_causes c.args.peer c.args.low (content c.args.state.now)) _
    c.in_err-check_job.ensures)

pub returns : goal.returns
returns c = c.check_host.ensures ∙ sym (passed (job_causes c.args.queue.now c.args.job.now FromPipe)
    (host_causes c.args.peer c.args.low (content c.args.state.now)) c.in_ok-check_job.ensures)
