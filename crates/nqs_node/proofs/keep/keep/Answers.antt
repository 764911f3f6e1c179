use Rattle.std.proofs.Common.{refl, sym, ap, subst, ◌∙◌, Ok, Err}
use Rattle.nqs_state.specs.State.{State, content}
use Rattle.nqs_base.specs.Want.{want}
use Rattle.nqs_base.specs.declared.extent.Extent.{Extent}
use Rattle.nqs_rules.specs.Fits.{fits}
use Rattle.nqs_store.specs.Calls.{MayCommit, Commits, state_after}
use Rattle.nqs_store.specs.Sound.{IsSoundHost}
use Rattle.nqs_store.specs.Stores.{plain_of, Tells}
use Rattle.nqs_store.specs.declared.fault.StoreFault.TheVariants.{Disk, Memory}
use Rattle.nqs_store.proofs.Kept.{only_memory}
use Rattle.nqs_store.proofs.ShortExtents.{live_short}
use Rattle.nqs_node.specs.Makes.{Makes}
use Rattle.nqs_node.proofs.Nothing.{makes_none}
use Rattle.nqs_node.proofs.Places.{no_error}
use Rattle.nqs_node.proofs.Shapes.{same_fit, same_sane, same_room}
use Rattle.nqs_node.proofs.Sites.{site_kept}
use Rattle.nqs_back.proofs.Plans.{bare_made}
use Rattle.nqs_node.proofs.keep.keep.Goals as goal

pub returns-in-Err-clause-makes : goal.returns-in-Err-clause-makes
returns-in-Err-clause-makes g c =
    let store = c.args.store.now in
    let host = content c.args.state.now in
    let fault = Memory c.in-Err.memory in
    subst (λ (h : State Extent). Makes {T = Unit {0}} store store host h c.args.change c.args.puts.now Disk (Memory want) (Err fault))
    (sym c.make_room.ensures.content)
    (makes_none store host c.requires.sound c.args.change c.args.puts.now Disk (Memory want) fault (only_memory fault refl))

pub returns-in-Err-commit-clause-makes : goal.returns-in-Err-commit-clause-makes
returns-in-Err-commit-clause-makes g c =
    let same = c.make_room.ensures.content in
    record {
      sound = subst IsSoundHost (sym same) c.requires.sound;
      site = ap (λ (h : State Extent). h.site) same;
      err = same;
      bare = tt;
      active = tt;
      told = λ tells told. tt;
      plain = λ tells told. tt;
      memory = λ is. (c.in-Err-commit.ensures.memory is).0;
      stops = c.in-Err-commit.ensures.stops;
      calls = subst (λ (h : State Extent). Commits {T = Unit {0}} c.args.store.now c.commit.new.self c.args.change c.args.puts.now h Disk
          (Err c.in-Err-commit.fault)) same c.in-Err-commit.ensures.calls;
    }

pub commit-requires-clause-sound : goal.commit-requires-clause-sound
commit-requires-clause-sound g c = subst IsSoundHost (sym c.make_room.ensures.content) c.requires.sound

pub commit-requires-clause-may : goal.commit-requires-clause-may
commit-requires-clause-may g c = subst (λ (h : State Extent). MayCommit h c.args.change c.args.puts.now) (sym c.make_room.ensures.content) c.requires.may

pub apply-requires-clause-sane : goal.apply-requires-clause-sane
apply-requires-clause-sane g c = same_sane c.args.change c.commit.new.change c.commit.ensures.keeps.shape ∙ c.requires.sane

pub apply-requires-clause-fits : goal.apply-requires-clause-fits
apply-requires-clause-fits g c = same_fit c.args.change c.commit.new.change c.commit.ensures.keeps.shape (content c.make_room.new.self)
    ∙ ap (fits c.args.change) c.make_room.ensures.content ∙ c.requires.may.fits

pub apply-requires-clause-room : goal.apply-requires-clause-room
apply-requires-clause-room g c = same_room c.args.change c.commit.new.change c.commit.ensures.keeps.shape c.make_room.new.self c.in-Ok.ensures.room

pub returns-in-Ok-commit-clause-makes : goal.returns-in-Ok-commit-clause-makes
returns-in-Ok-commit-clause-makes g c =
    let change = c.commit.new.change in
    let host = content c.make_room.new.self in
    let same = c.make_room.ensures.content in
    let e = c.in-Ok-commit.ensures.keeps in
    let sound = subst IsSoundHost (sym same) c.requires.sound in
    let sane = same_sane c.args.change change e.shape ∙ c.requires.sane in
    let fit = same_fit c.args.change change e.shape host ∙ ap (fits c.args.change) same ∙ c.requires.may.fits in
    record {
      sound = subst IsSoundHost (sym c.apply.ensures) (record {
        order = c.order_is_kept.ensures change host sound.order sane fit;
        consistent = c.consistent_is_kept.ensures change host sound.order sound.consistent sane fit;
        short = live_short change host fit e.stands sound.short;
      });
      site = ap (λ (h : State Extent). h.site) c.apply.ensures ∙ site_kept change host fit ∙ ap (λ (h : State Extent). h.site) same;
      err = tt;
      bare = bare_made c.args.change change (content c.args.state.now) host (content c.apply.new.state) e.shape c.apply.ensures same;
      active = e.active;
      told = λ tells told. subst (Tells c.commit.new.self) (sym c.apply.ensures) (e.told tells (subst (Tells c.args.store.now) (sym same) told));
      plain = λ tells told.
          ap (plain_of c.commit.new.self) c.apply.ensures ∙ e.plain tells (subst (Tells c.args.store.now) (sym same) told)
          ∙ ap (state_after c.args.store.now c.args.change c.args.puts.now) same;
      memory = λ is. absurd (no_error _ _ is);
      stops = c.in-Ok-commit.ensures.stops;
      calls = subst (λ (h : State Extent). Commits {T = Unit {0}} c.args.store.now c.commit.new.self c.args.change c.args.puts.now h Disk (Ok tt))
          same c.in-Ok-commit.ensures.calls;
    }

pub returns-in-Ok-commit-clause-spelled : goal.returns-in-Ok-commit-clause-spelled
returns-in-Ok-commit-clause-spelled g c = λ yes told.
    c.in-Ok-commit.ensures.spelled yes (subst (Tells c.args.store.now) (sym c.make_room.ensures.content) told)

pub returns-in-Err-clause-unread : goal.returns-in-Err-clause-unread
returns-in-Err-clause-unread g c = λ yes which. refl
