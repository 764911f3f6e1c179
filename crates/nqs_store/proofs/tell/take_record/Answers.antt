use Rattle.std.proofs.Common.{rules, ◌∙◌, ap, sym, subst, true, ◌≡◌}
use Rattle.nqs_state.specs.State.{content}
use Rattle.nqs_rules.specs.Applied.{applied}
use Rattle.nqs_rules.specs.Fits.{fits}
use Rattle.nqs_rules.proofs.ChangesOrder.{applied_order}
use Rattle.nqs_rules.proofs.ChangesConsistent.{applied_consistent}
use Rattle.nqs_records.proofs.SaneLaws.{what_may_stand_is_sane}
use Rattle.nqs_changes.specs.Running.{runs_only}
use Rattle.nqs_changes.proofs.Running.{what_may_run}
use Rattle.nqs_store.specs.Sound.{IsSoundHost}
use Rattle.nqs_store.proofs.ShortExtents.{live_short}
use Rattle.nqs_store.proofs.tell.take_record.Goals as goal

pub make_change-requires : goal.make_change-requires
make_change-requires c = record {
  order = search rules;
  only = search rules;
  sane = what_may_stand_is_sane c.in_ok-change.change c.in_ok-change.ensures.ok.1;
  fits = search rules;
  room = search rules;
}

pub returns : goal.returns
returns c =
    let s = content c.args.state.now in
    let change = c.in_ok-change.change in
    let fit : fits change s ≡ true = sym c.fits.ensures ∙ c.if-not-fits.false in
    let now = c.in_ok-make_change.ensures.made ∙ ap (applied change) c.make_room.ensures.content in
    record {
      ok = search rules;
      so_far = record {
        sound = subst IsSoundHost (sym now) (record {
          order = applied_order change s c.requires.sound.order (what_may_stand_is_sane change c.in_ok-change.ensures.ok.1) fit;
          consistent = applied_consistent s c.requires.sound.order c.requires.sound.consistent change fit;
          short = live_short change s fit c.in_ok-change.ensures.ok.1 c.requires.sound.short;
        });
        only = (λ j. runs_only (c.in_ok-make_change.ensures.running j) (now j)) ∙ what_may_run change c.args.running.now.items s c.requires.only;
      };
      err = tt;
    }
