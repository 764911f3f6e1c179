use Rattle.std.proofs.lemmas.Result.{IfOk-weaker}
use Rattle.nqs_qsub.specs.Law.{Answers}
use Rattle.nqs_qsub.specs.Qsub.{ReadsQsub}
use Rattle.nqs_qsub.proofs.Said.{answers}
use Rattle.nqs_qsub.proofs.submission.read_qsub.Goals as goal

pub returns-clause-answers : goal.returns-clause-answers
returns-clause-answers c =
    let user = c.args.user.now in
    let words = c.args.words.now in
    let script = c.args.script.now in
    IfOk-weaker c.read_submission.result (ReadsQsub user words script) (Answers user words script) (answers user words script) c.read_submission.ensures
