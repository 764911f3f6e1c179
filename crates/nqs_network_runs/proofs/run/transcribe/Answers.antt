use Rattle.std.proofs.Common.{◌≡◌, ◌+◌, ◌++◌, ◌∷◌, [], List, false, take, refl, sym, ap, subst, ◌∙◌, arith}
use Rattle.std.proofs.lemmas.List.{take_all, take_more}
use Rattle.std.proofs.lemmas.Result.{err_from_is_err_and}
use Rattle.std.specs.Io.KnownBytes.{Appends}
use Rattle.nqs_outside.proofs.Known.{Appends-none}
use Rattle.nqs_types.specs.declared.world.WorldEvent.{WorldEvent}
use Rattle.nqs_net.specs.Worlds.{IsWorld}
use Rattle.nqs_network_runs.specs.Running.{ran, text_of}
use Rattle.nqs_network_runs.specs.Writing.{HasWritten}
use Rattle.nqs_network_runs.proofs.Runs.{sane_before, begins_before, told_there, world_there}
use Rattle.nqs_network_runs.proofs.Fronts.{failed_since, lacked}
use Rattle.nqs_network_runs.proofs.Pieces.{written_on, written_then, written_front, written_part, written_whole}
use Rattle.nqs_network_runs.proofs.run.transcribe.Goals as goal

pub tell-requires-clause-sound : goal.tell-requires-clause-sound
tell-requires-clause-sound g c =
    let i = c.loop-event.event-index in
    (take i c.args.events.now, (c.requires.site, sane_before c.args.events.now i c.requires.sane, c.loop-event.invariant.world))

pub returns-in_err-world : goal.returns-in_err-world
returns-in_err-world g c =
    let p = err_from_is_err_and c.from_residual.result c.from_residual.ensures.1 in
    rw (p.1, p.2) (lacked (text_of false c.args.site.now c.args.events.now) (ran c.args.site.now c.args.events.now).world _ _
    ([], (text_of false c.args.site.now c.args.events.now, refl), Appends-none (g.K.Sink.taken c.args.out.now)))

pub returns-in_err-tell : goal.returns-in_err-tell
returns-in_err-tell g c =
    let p = err_from_is_err_and c.from_residual-in_err-tell.result c.from_residual-in_err-tell.ensures.1 in
    let i = c.loop-event.event-index in
    let site = c.args.site.now in
    let events = c.args.events.now in
    rw (p.1, p.2) (lacked (text_of false site events) (ran site events).world _ _
    (written_front _ _ (text_of false site events) (text_of false site (take i events)) _ (begins_before site events i) c.loop-event.invariant.written))

pub returns-in_err-write_piece : goal.returns-in_err-write_piece
returns-in_err-write_piece g c =
    let p = err_from_is_err_and c.from_residual-in_err-write_piece.result c.from_residual-in_err-write_piece.ensures.1 in
    let site = c.args.site.now in
    let i = c.loop-event.event-index in
    let events = c.args.events.now in
    let event = c.event-item.result in
    let before = take i events in
    let more : take (i + 1) events ≡ before ++ event ∷ [] = take_more events i event c.loop-event-test.true
    ∙ ap (λ (e : WorldEvent). before ++ e ∷ []) (sym c.event-item.is) in
    let told = c.in_ok-tell.ensures before (c.requires.site, sane_before events i c.requires.sane, c.loop-event.invariant.world) in
    let there = told_there site before (take (i + 1) events) event c.tell.new.world told.0 told.0 more told.2 refl in
    let written = subst (λ text. HasWritten (g.K.Sink.taken c.args.out.now) (g.K.Sink.taken c.loop-event.out) text c.tell.new.text.items) (sym there)
    (written_on _ _ (text_of false site before) c.loop-event.text.items told.0 c.tell.new.text.items c.loop-event.invariant.written told.1) in
    let stop = c.in_err-write_piece.ensures in
    rw (p.1, p.2) (
      failed_since _ _ _ _ _ _ c.loop-event.invariant.later.0 c.loop-event.invariant.later.1 stop.fault,
      written_part _ _ _ (text_of false site events) (text_of false site (take (i + 1) events)) c.tell.new.text.items stop.err.0
          (begins_before site events (i + 1))
          written stop.err.1,
    )

pub loop-event-preserved : goal.loop-event-preserved
loop-event-preserved g c =
    let site = c.args.site.now in
    let i = c.loop-event.event-index in
    let events = c.args.events.now in
    let event = c.event-item.result in
    let before = take i events in
    let more : take (i + 1) events ≡ before ++ event ∷ [] = take_more events i event c.loop-event-test.true
    ∙ ap (λ (e : WorldEvent). before ++ e ∷ []) (sym c.event-item.is) in
    let told = c.in_ok-tell.ensures before (c.requires.site, sane_before events i c.requires.sane, c.loop-event.invariant.world) in
    let there = told_there site before (take (i + 1) events) event c.tell.new.world told.0 told.0 more told.2 refl in
    let written = subst (λ text. HasWritten (g.K.Sink.taken c.args.out.now) (g.K.Sink.taken c.loop-event.out) text c.tell.new.text.items) (sym there)
    (written_on _ _ (text_of false site before) c.loop-event.text.items told.0 c.tell.new.text.items c.loop-event.invariant.written told.1) in
    record {
      world = world_there site before (take (i + 1) events) event c.tell.new.world more told.2.0;
      written = written_then _ _ _ (text_of false site (take (i + 1) events)) c.tell.new.text.items c.write_piece.new.text.items written
          c.in_ok-write_piece.ensures.ok;
      later = (
        omega (arith, c.loop-event.invariant.later.0, c.write_piece.ensures.later.0),
        omega (arith, c.loop-event.invariant.later.1, c.write_piece.ensures.later.1),
      );
    }

pub returns-in_err-write_whole : goal.returns-in_err-write_whole
returns-in_err-write_whole g c =
    let p = err_from_is_err_and c.from_residual-in_err-write_whole.result c.from_residual-in_err-write_whole.ensures.1 in
    let text = text_of false c.args.site.now c.args.events.now in
    let i = c.loop-event.event-index in
    let stop = c.in_err-write_whole.ensures in
    let front = subst (λ piece. Appends (g.K.Sink.taken c.loop-event.out) (g.K.Sink.taken c.write_whole.new.sink) (take stop.err.0 piece)) c.deref.ensures.value
    stop.err.2 in
    rw (p.1, p.2) (
      failed_since _ _ _ _ _ _ c.loop-event.invariant.later.0 c.loop-event.invariant.later.1 stop.fault,
      written_part _ _ _ text (text_of false c.args.site.now (take i c.args.events.now)) c.loop-event.text.items stop.err.0
          (begins_before c.args.site.now c.args.events.now i) c.loop-event.invariant.written front,
    )

pub returns : goal.returns
returns g c =
    let site = c.args.site.now in
    let i = c.loop-event.event-index in
    let all : take i c.args.events.now ≡ c.args.events.now = take_all i c.args.events.now
    (omega (arith, c.loop-event-test.false, c.loop-event.auto.event-index-end)) in
    let rest = subst (Appends (g.K.Sink.taken c.loop-event.out) (g.K.Sink.taken c.write_whole.new.sink)) c.deref.ensures.value
    c.in_ok-write_whole.ensures.ok in (
      subst (λ (events : List WorldEvent). Appends (g.K.Sink.taken c.args.out.now) (g.K.Sink.taken c.write_whole.new.sink) (text_of false site events)) all
          (written_whole _ _ _ (text_of false site (take i c.args.events.now)) c.loop-event.text.items c.loop-event.invariant.written rest),
      subst (λ (events : List WorldEvent). IsWorld c.loop-event.world (ran site events).world) all c.loop-event.invariant.world,
    )
