use Rattle.std.proofs.Common.{ap, subst, sym, ◌∙◌}
use Rattle.std.specs.List.{list_all}
use Rattle.nqs_laws.specs.Sane.{IsSite}
use Rattle.nqs_language_acts.specs.Acts.{is_sane_line}
use Rattle.nqs_network_runs.proofs.Playing.{runs_same}
use Rattle.nqs_network_runs.proofs.replay.play_generated.Goals as goal

pub run-requires-clause-site : goal.run-requires-clause-site
run-requires-clause-site g c =
    subst IsSite (sym (c.as_slice.ensures ∙ c.in-Ok.ensures.site)) (c.sites_are_right.ensures.generated c.args.generation.hosts c.requires.some c.requires.few)

pub run-requires-clause-sane : goal.run-requires-clause-sane
run-requires-clause-sane g c =
    let asked = c.args.generation in
    ap (list_all is_sane_line) (c.as_slice-in-Ok.ensures ∙ c.in-Ok.ensures.events) ∙ c.generated_schedules_are_sane.ensures asked.seed asked.hosts asked.events

pub returns-in-Ok : goal.returns-in-Ok
returns-in-Ok g c =
    runs_same c.args.summary _ _ _ _ _ c.args.left.now.items c.run.new.left.items c.run.result (c.as_slice.ensures ∙ c.in-Ok.ensures.site)
    (c.as_slice-in-Ok.ensures ∙ c.in-Ok.ensures.events) c.run.ensures
