use Rattle.std.proofs.Common.{ap, subst, sym, ◌∙◌}
use Rattle.std.specs.List.{list_all}
use Rattle.nqs_laws.specs.Sane.{IsSite}
use Rattle.nqs_language_acts.specs.Acts.{is_sane_line}
use Rattle.nqs_network_runs.proofs.Playing.{plays, reports}
use Rattle.nqs_network_runs.proofs.replay.play.Goals as goal

pub run-requires-clause-site : goal.run-requires-clause-site
run-requires-clause-site g c =
    let read = c.in-Ok.ensures in
    subst IsSite (sym (c.as_slice.ensures ∙ read.2)) (c.sites_are_right.ensures.read c.args.input.now read.0 read.1)

pub run-requires-clause-sane : goal.run-requires-clause-sane
run-requires-clause-sane g c =
    let read = c.in-Ok.ensures in
    ap (list_all is_sane_line) (c.as_slice-in-Ok.ensures ∙ read.3) ∙ c.schedules_are_sane.ensures c.args.input.now read.0 read.1

pub returns-in-Ok : goal.returns-in-Ok
returns-in-Ok g c =
    let read = c.in-Ok.ensures in
    plays c.args.summary c.args.input.now read.0 c.as_slice.result.now c.as_slice-in-Ok.result.now _ c.args.left.now.items c.run.new.left.items
    c.run.result read.1 (c.as_slice.ensures ∙ read.2) (c.as_slice-in-Ok.ensures ∙ read.3) c.run.ensures

pub returns-in-Err-Bad : goal.returns-in-Err-Bad
returns-in-Err-Bad g c = reports c.args.summary c.args.input.now c.in-Err-Bad.fault.line c.in-Err-Bad.fault.cause _ c.args.left.now.items c.report.result
    (rw c.in-Err-Bad.field-0-is at c.in-Err-Bad.ensures) c.report.ensures
