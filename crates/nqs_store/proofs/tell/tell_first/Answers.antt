use Rattle.std.proofs.Common.{◌∙◌, ◌++◌, ◌∷◌, length, sym, ap, arith, None, length-append}
use Rattle.std.proofs.lemmas.Result.{err_from_is_err_and}
use Rattle.nqs_state.specs.State.{content}
use Rattle.nqs_journal.specs.Text.{header, records, frame}
use Rattle.nqs_journal.proofs.Texts.{length-frame}
use Rattle.nqs_changes.specs.Running.{runs_only}
use Rattle.nqs_store.specs.Told.{record_taken}
use Rattle.nqs_store.proofs.Telling.{told_first, bad_first, bad_later}
use Rattle.nqs_store.proofs.tell.tell_first.Goals as goal

pub returns-in_err-state : goal.returns-in_err-state
returns-in_err-state c =
    let p = err_from_is_err_and c.from_residual.result c.from_residual.ensures.1 in
    record {
      ok = rw p.1 tt;
      err = rw (p.1, p.2) (bad_first c.args.payloads.now c.in-Some.first.now _ c.in-Some.later.now _ c.as_slice.ensures c.in-Some.ensures.cases.0
          c.in_err-state.ensures.told.err);
    }

pub take_records-requires-clause-short : goal.take_records-requires-clause-short
take_records-requires-clause-short c =
    let first = c.in-Some.first.now in
    let later = c.in-Some.later.now in
    omega (
      arith,
      c.requires,
      ap (λ ps. length (header ++ records ps)) c.in-Some.ensures.cases.0,
      length-append header (records (first ∷ later)),
      length-append (1 ∷ frame first) (records later),
      length-frame first,
      c.len.ensures,
    )

pub take_records-requires-clause-so_far : goal.take_records-requires-clause-so_far
take_records-requires-clause-so_far c = record {
  sound = c.in_ok-state.ensures.told.ok.1;
  only = ap (λ l. runs_only l (content c.in_ok-state.state)) c.new-running.ensures.items ∙ c.in_ok-state.ensures.none;
}

pub returns-in_err-take_records : goal.returns-in_err-take_records
returns-in_err-take_records c =
    let p = err_from_is_err_and c.from_residual-in_err-take_records.result c.from_residual-in_err-take_records.ensures.1 in
    let first = c.in-Some.first.now in
    let host = content c.in_ok-state.state in
    record {
      ok = rw p.1 tt;
      err = rw (p.1, p.2) (bad_later c.args.payloads.now first c.in-Some.later.now host _ _ c.in-Some.ensures.cases.0
          (ap (λ q. record_taken q None) (sym c.as_slice.ensures) ∙ c.in_ok-state.ensures.told.ok.0) (omega (arith, c.len.ensures))
          c.in_err-take_records.ensures.err);
    }

pub returns : goal.returns
returns c =
    let first = c.in-Some.first.now in
    let host = content c.in_ok-state.state in
    record {
      ok = (
        told_first c.args.payloads.now first c.in-Some.later.now host _ c.in-Some.ensures.cases.0
            (ap (λ q. record_taken q None) (sym c.as_slice.ensures) ∙ c.in_ok-state.ensures.told.ok.0) c.in_ok-take_records.ensures.ok,
        c.in_ok-take_records.ensures.so_far.sound,
      );
      err = tt;
    }
