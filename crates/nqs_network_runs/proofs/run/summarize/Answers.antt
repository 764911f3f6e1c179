use Rattle.std.proofs.Common.{◌≡◌, true, [], take, length, map, refl, sym, subst, ◌∙◌}
use Rattle.std.proofs.lemmas.Result.{err_from_is_err_and}
use Rattle.std.specs.Io.KnownBytes.{Appends}
use Rattle.nqs_outside.proofs.Known.{Appends-none}
use Rattle.nqs_language_acts.specs.Acts.{act_of}
use Rattle.nqs_schedule.specs.Summary.{summary_text}
use Rattle.nqs_network_runs.specs.Running.{ran, text_of, table_length}
use Rattle.nqs_network_runs.proofs.Fronts.{front_of, lacked}
use Rattle.nqs_network_runs.proofs.run.summarize.Goals as goal

pub returns-in_err-world : goal.returns-in_err-world
returns-in_err-world g c =
    let p = err_from_is_err_and c.from_residual.result c.from_residual.ensures.1 in
    let text = text_of true c.args.site.now c.args.events.now in
    rw (p.1, p.2) (lacked text (ran c.args.site.now c.args.events.now).world _ _ ([], (text, refl), Appends-none (g.K.Sink.taken c.args.out.now)))

pub text_of_summary-requires : goal.text_of_summary-requires
text_of_summary-requires g c =
    let site = c.args.site.now in
    let events = c.args.events.now in
    record {
      sound = (
        site,
        (ran site events).world,
        c.hosts_stay_in_order.ensures site (map act_of events) c.requires.site (c.acts_are_sane.ensures events c.requires.sane),
        c.in_ok-world.ensures.0,
      );
    }

pub returns-in_err-text : goal.returns-in_err-text
returns-in_err-text g c =
    let p = err_from_is_err_and c.from_residual-in_err-text.result c.from_residual-in_err-text.ensures.1 in
    rw (p.1, p.2) ([], (text_of true c.args.site.now c.args.events.now, refl), Appends-none (g.K.Sink.taken c.args.out.now))

pub returns-in_err-write_whole : goal.returns-in_err-write_whole
returns-in_err-write_whole g c =
    let p = err_from_is_err_and c.from_residual-in_err-write_whole.result c.from_residual-in_err-write_whole.ensures.1 in
    let events = c.args.events.now in
    let network = (ran c.args.site.now events).world in
    let text = text_of true c.args.site.now events in
    let counted = c.in_ok-world.ensures in
    let piece : c.deref.result.now ≡ text = c.deref.ensures.value ∙ c.in_ok-text.ensures.text network counted.0
    ∙ (λ j. summary_text (counted.1 j) (length events) (table_length network)) in
    let stop = c.in_err-write_whole.ensures in
    rw (p.1, p.2) (stop.fault, (take stop.err.0 c.deref.result.now, front_of text c.deref.result.now stop.err.0 piece, stop.err.2))
