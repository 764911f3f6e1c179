use Rattle.std.proofs.Common.{ℕ, List, Ok, ap, ◌∙◌, true≢false}
use Rattle.std.proofs.lemmas.Result.{err_from_is_err_and}
use Rattle.nqs_records.proofs.Named.{path_taken, path_refused}
use Rattle.nqs_records.proofs.part.read_path.Goals as goal

pub returns-in_err-path-in-Ok : goal.returns-in_err-path-in-Ok
returns-in_err-path-in-Ok c =
    let p = err_from_is_err_and c.from_residual.result c.from_residual.ensures.1 in
    rw (p.1, p.2) (λ q. absurd (true≢false q))

pub returns-in_ok-path-in-Ok : goal.returns-in_ok-path-in-Ok
returns-in_ok-path-in-Ok c = λ q.
    ap (λ (l : List ℕ). Ok (l, c.in-Ok.next)) (c.from_vec.ensures ∙ c.in_ok-path-in-Ok.ensures.items ∙ c.slice_of.ensures)
    ∙ path_taken c.args.bytes.now c.args.place c.in-Ok.extent c.in-Ok.next c.in-Ok.ensures

pub returns-in-Err : goal.returns-in-Err
returns-in-Err c = λ q. rw c.as_fault.ensures (path_refused c.args.bytes.now c.args.place c.in-Err.fault c.in-Err.ensures)
