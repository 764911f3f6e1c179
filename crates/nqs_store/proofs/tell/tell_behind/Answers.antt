use Rattle.std.proofs.Common.{arith, length-append}
use Rattle.std.proofs.lemmas.Result.{err_from_is_err_and}
use Rattle.nqs_state.specs.State.{content}
use Rattle.nqs_journal.specs.Text.{records}
use Rattle.nqs_journal.specs.Either.{front_of}
use Rattle.nqs_store.proofs.Telling.{told_snapshot, bad_snapshot, bad_behind}
use Rattle.nqs_store.proofs.tell.tell_behind.Goals as goal

pub returns-in_err-state : goal.returns-in_err-state
returns-in_err-state c =
    let p = err_from_is_err_and c.from_residual.result c.from_residual.ensures.1 in
    record {
      ok = rw p.1 tt;
      err = rw (p.1, p.2) (bad_snapshot c.args.version c.args.snapshot.now c.args.payloads.now _ c.requires.version c.in_err-state.ensures.err);
    }

pub take_records-requires-clause-short : goal.take_records-requires-clause-short
take_records-requires-clause-short c =
    omega (
      arith,
      c.requires.short,
      c.front_length-place.ensures,
      length-append (front_of c.args.version c.args.snapshot.now) (records c.args.payloads.now),
    )

pub returns-in_err-take_records : goal.returns-in_err-take_records
returns-in_err-take_records c =
    let p = err_from_is_err_and c.from_residual-in_err-take_records.result c.from_residual-in_err-take_records.ensures.1 in
    record {
      ok = rw p.1 tt;
      err = rw (p.1, p.2) (bad_behind c.args.version c.args.snapshot.now c.args.payloads.now (content c.in_ok-state.state) _ _ c.requires.version
          c.in_ok-state.ensures.ok.0 c.front_length-place.ensures c.in_err-take_records.ensures.err);
    }

pub returns : goal.returns
returns c = record {
  ok = (
    told_snapshot c.args.version c.args.snapshot.now c.args.payloads.now (content c.in_ok-state.state) _ c.requires.version c.in_ok-state.ensures.ok.0
        c.in_ok-take_records.ensures.ok,
    c.in_ok-take_records.ensures.so_far.sound,
  );
  err = tt;
}
