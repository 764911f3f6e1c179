use Rattle.std.proofs.Common.{◌≡◌, ◌+◌, ◌++◌, ◌∷◌, [], List, take, map, sym, ap, ◌∙◌}
use Rattle.std.proofs.lemmas.List.{take_more}
use Rattle.nqs_types.specs.declared.world.Seen.{Seen}
use Rattle.nqs_types.specs.declared.world.WorldEvent.{WorldEvent}
use Rattle.nqs_schedule.specs.Summary.{nothing_seen, summary_of}
use Rattle.nqs_language_acts.specs.Acts.{act_of}
use Rattle.nqs_network_runs.specs.Running.{ran}
use Rattle.nqs_network_runs.proofs.Runs.{went_on, sane_before, summed_none, world_there, counted_there}
use Rattle.nqs_network_runs.proofs.run.count_events.Goals as goal

pub event-requires-clause-sound : goal.event-requires-clause-sound
event-requires-clause-sound c =
    let site = c.args.site.now in
    let before = take c.loop-event.event-index c.args.events.now in
    let sane = sane_before c.args.events.now c.loop-event.event-index c.requires.sane in
    let order = c.hosts_stay_in_order.ensures site (map act_of before) c.requires.site (c.acts_are_sane.ensures before sane) in
    (site, (ran site before).world, order, c.loop-event.invariant.world)

pub loop-event-init : goal.loop-event-init
loop-event-init c = record { world = c.in_ok-world.ensures; counted = c.new-summary.ensures ∙ sym (summed_none nothing_seen) }

pub loop-event-preserved : goal.loop-event-preserved
loop-event-preserved c =
    let site = c.args.site.now in
    let i = c.loop-event.event-index in
    let events = c.args.events.now in
    let event = c.event-item.result in
    let before = take i events in
    let more : take (i + 1) events ≡ before ++ event ∷ [] = take_more events i event c.loop-event-test.true
    ∙ ap (λ (e : WorldEvent). before ++ e ∷ []) (sym c.event-item.is) in
    let network = (ran site before).world in
    let sane = sane_before events i c.requires.sane in
    let order = c.hosts_stay_in_order.ensures site (map act_of before) c.requires.site (c.acts_are_sane.ensures before sane) in
    let on = went_on site before event c.event.new.self _ c.event.new.seen.items (c.in_ok-event.ensures.world site network order c.loop-event.invariant.world)
    (c.in_ok-event.ensures.seen site network order c.loop-event.invariant.world) c.clear.ensures.items in
    record {
      world = world_there site before (take (i + 1) events) event c.event.new.self more on.0;
      counted = c.count_all.ensures ∙ ap (λ (seen : List Seen). summary_of c.loop-event.summary seen) c.deref.ensures.value
          ∙ counted_there site before (take (i + 1) events) event c.event.new.self c.event.new.seen.items c.loop-event.summary more on
          c.loop-event.invariant.counted;
    }
