use Rattle.std.proofs.lemmas.Result.{IfOk-weaker}
use Rattle.nqs_qsub.specs.Law.{Answers}
use Rattle.nqs_qsub.specs.Qsub.{ReadsQsub}
use Rattle.nqs_qsub.proofs.Said.{answers}
use Rattle.nqs_qsub.proofs.submission.read_qsub_of.Goals as goal

pub returns-clause-answers : goal.returns-clause-answers
returns-clause-answers c =
    let user = c.args.user.now in
    let words = c.args.words.now in
    let script = c.args.script in
    IfOk-weaker c.read_keeping.result (ReadsQsub user words script) (Answers user words script) (answers user words script) c.read_keeping.ensures
