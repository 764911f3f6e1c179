use Rattle.std.proofs.Common.{◌++◌, ◌∙◌, ap}
use Rattle.std.proofs.lemmas.Result.{on_ok_weaker}
use Rattle.nqs_journal.proofs.Eithers.{one_plain}
use Rattle.nqs_journal.proofs.journal.Journal.reread.Goals as goal

pub returns-clause-found : goal.returns-clause-found
returns-clause-found g c = λ told. on_ok_weaker c.read_payloads.result
    (λ found is_old payloads tells. found.2 ∙ ap (λ ps. c.args.found.now.items ++ ps) (one_plain _ found.0 payloads found.1 (is_old, tells.stands)))
    (c.read_payloads.ensures.found told)
