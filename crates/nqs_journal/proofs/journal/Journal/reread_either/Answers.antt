use Rattle.std.proofs.Common.{◌++◌, ◌∙◌, ap}
use Rattle.std.proofs.lemmas.Result.{IfOk-weaker}
use Rattle.nqs_journal.specs.Either.{version_of}
use Rattle.nqs_journal.proofs.Eithers.{one_reading}
use Rattle.nqs_journal.proofs.journal.Journal.reread_either.Goals as goal

-- what the journal told before is what its bytes stand for
pub returns-clause-found : goal.returns-clause-found
returns-clause-found g c = λ tells. IfOk-weaker c.read_either.result _ _
    (λ version found form front payloads is opened.
    let same = one_reading _ found.0 form found.1 front found.2 payloads found.4 (is, opened.stands) in (
      found.3 ∙ ap version_of same.0,
      found.5 ∙ ap (λ l. c.args.snapshot.now.items ++ l) same.1,
      found.6 ∙ ap (λ ps. c.args.found.now.items ++ ps) same.2,
    ))
    (c.read_either.ensures.found tells)
