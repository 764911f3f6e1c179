use Rattle.std.proofs.lemmas.Result.{err_from_is_err_and}
use Rattle.nqs_journal.proofs.ReadingFaults.{of_disk, to_either}
use Rattle.nqs_journal.proofs.either.add_journal.Goals as goal

pub returns-in_err-bytes-clause-fault : goal.returns-in_err-bytes-clause-fault
returns-in_err-bytes-clause-fault g c = λ told.
    let p = err_from_is_err_and c.from_residual.result c.from_residual.ensures.1 in
    rw (p.1, p.2) (to_either _ _ c.in_err-bytes.ensures.fault)

pub returns-in_err-bytes-clause-only : goal.returns-in_err-bytes-clause-only
returns-in_err-bytes-clause-only g c =
    let p = err_from_is_err_and c.from_residual.result c.from_residual.ensures.1 in
    rw (p.1, p.2) (of_disk _ c.in_err-bytes.ensures.fault)
