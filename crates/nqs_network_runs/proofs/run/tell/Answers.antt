use Rattle.std.proofs.Common.{◌++◌, ap, map, refl, ◌∙◌, List}
use Rattle.nqs_rules.specs.Transcript.{transcript}
use Rattle.nqs_types.specs.declared.world.Seen.{Seen}
use Rattle.nqs_language_acts.specs.Acts.{act_of}
use Rattle.nqs_network_runs.specs.Running.{ran}
use Rattle.nqs_network_runs.proofs.Runs.{went_on, tells}
use Rattle.nqs_network_runs.proofs.run.tell.Goals as goal

pub event-requires-clause-sound : goal.event-requires-clause-sound
event-requires-clause-sound c =
    let run = c.requires.sound in
    let before = run.0 in
    let site = c.args.site.now in
    (site, (ran site before).world, c.hosts_stay_in_order.ensures site (map act_of before) run.1.0 (c.acts_are_sane.ensures before run.1.1), run.1.2)

pub returns : goal.returns
returns c = λ before run.
    let site = c.args.site.now in
    let order = c.hosts_stay_in_order.ensures site (map act_of before) run.0 (c.acts_are_sane.ensures before run.1) in
    let network = (ran site before).world in
    let seen = c.event.new.seen.items in
    let on = went_on site before c.args.event.now c.event.new.self _ seen (c.in_ok-event.ensures.world site network order run.2)
    (c.in_ok-event.ensures.seen site network order run.2) c.clear.ensures.items in (
      transcript site seen,
      c.in_ok-print_all.ensures ∙ ap (λ (l : List Seen). c.args.text.now.items ++ transcript site l) c.deref.ensures.value,
      tells site before c.args.event.now c.event.new.self seen (transcript site seen) on refl,
    )
