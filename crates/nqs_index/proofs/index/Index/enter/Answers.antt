use Rattle.std.proofs.Common.{sym, true≢false}
use Rattle.std.proofs.lemmas.Result.{on_ok_weaker}
use Rattle.nqs_index.specs.declared.index.Index.{Index}
use Rattle.nqs_index.proofs.StandsLemmas.{entered, can_count, can_run, not_running}
use Rattle.nqs_index.proofs.index.Index.enter.Goals as goal

pub returns-clause-stands : goal.returns-clause-stands
returns-clause-stands g c ts us stands more few =
    let old = c.args.self.now in
    let seat = c.args.seat.now in
    let new : Index = record {
      counters = c.count_in.new.counters;
      lines = c.line_up.new.lines;
      nobody = old.nobody;
      runs = c.start_run.new.runs;
      most = old.most;
    } in
    on_ok_weaker c.count_in.result
    (λ adds. entered old new seat ts us stands more adds c.in_ok-line_up.ensures.ok (c.in_ok-start_run.ensures.runs (can_run seat ts us more few old stands)))
    (c.count_in.ensures.adds (can_count seat ts us more few old stands))

pub returns-in_err-line_up-clause-none : goal.returns-in_err-line_up-clause-none
returns-in_err-line_up-clause-none g c held queued = absurd (true≢false (sym (c.in_err-line_up.ensures.none held)))

pub returns-in_err-start_run-clause-none : goal.returns-in_err-start_run-clause-none
returns-in_err-start_run-clause-none g c held queued = absurd (true≢false (sym (c.in_err-start_run.ensures.none (not_running c.args.seat.now.state queued))))

pub returns-clause-none : goal.returns-clause-none
returns-clause-none g c held queued = c.count_in.ensures.none queued
