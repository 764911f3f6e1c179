use Rattle.std.proofs.Common.{◌≡◌, ◌∙◌, ◌++◌, OnOk, OnErr, refl, sym, subst}
use Rattle.std.proofs.lemmas.Result.{on_ok_weaker, err_from_is_err_and}
use Rattle.nqs_rules.specs.World.{Ran, seen_of}
use Rattle.nqs_language_acts.specs.Acts.{act_of}
use Rattle.nqs_net.specs.Lists.{GrowsByFront}
use Rattle.nqs_net.specs.Worlds.{IsWorld}
use Rattle.nqs_net.proofs.Fronts.{none_shown}
use Rattle.nqs_net.proofs.Means.{means, ready_by}
use Rattle.nqs_net.proofs.Ordered.{order_kept}
use Rattle.nqs_net.proofs.world.World.event.Goals as goal

pub act-requires : goal.act-requires
act-requires c =
    let (site, network, order, stands) = c.requires.sound in
    let comes = sym (c.in_ok-host.ensures network (sym stands.now) (c.deref.ensures.value ∙ stands.packets)) ∙ c.in-Some.is in
    record { ready = ready_by (act_of c.args.event.now) c.args.self.now (c.in-Some.host, c.in-Some.deed) site network comes c.requires.sane order stands }

pub other-requires : goal.other-requires
other-requires c = record {
  sound = c.requires.sound;
  other = λ network stands. sym (c.in_ok-host.ensures network (sym stands.now) (c.deref.ensures.value ∙ stands.packets)) ∙ c.in-None.is;
}

pub returns-in-Some-clause-world : goal.returns-in-Some-clause-world
returns-in-Some-clause-world c = λ site network order stands.
    let comes = sym (c.in_ok-host.ensures network (sym stands.now) (c.deref.ensures.value ∙ stands.packets)) ∙ c.in-Some.is in
    subst (λ (r : Ran). OnOk c.act.result (IsWorld c.act.new.self r.world))
    (sym (means (act_of c.args.event.now) network (c.in-Some.host, c.in-Some.deed) comes).happens) (c.act.ensures.world network stands)

pub returns-in-Some-clause-seen : goal.returns-in-Some-clause-seen
returns-in-Some-clause-seen c = λ site network order stands.
    let comes = sym (c.in_ok-host.ensures network (sym stands.now) (c.deref.ensures.value ∙ stands.packets)) ∙ c.in-Some.is in
    subst (λ (r : Ran). OnOk c.act.result (c.act.new.seen.items ≡ c.args.seen.now.items ++ seen_of r))
    (sym (means (act_of c.args.event.now) network (c.in-Some.host, c.in-Some.deed) comes).happens) (c.act.ensures.seen network stands)

pub returns-in-Some-clause-sound : goal.returns-in-Some-clause-sound
returns-in-Some-clause-sound c = λ site network order stands. on_ok_weaker c.act.result
    (λ _. order_kept site network (act_of c.args.event.now) c.requires.sane order) (c.act.ensures.world network stands)

pub returns-in-None-clause-sound : goal.returns-in-None-clause-sound
returns-in-None-clause-sound c = λ site network order stands. on_ok_weaker c.other.result
    (λ _. order_kept site network (act_of c.args.event.now) c.requires.sane order) (c.other.ensures.world network stands)

pub returns-in_err-host-clause-front : goal.returns-in_err-host-clause-front
returns-in_err-host-clause-front c = λ site network order stands.
    let p = err_from_is_err_and c.from_residual.result c.from_residual.ensures.1 in
    rw p.1 (none_shown c.args.seen.now.items c.args.seen.now.items _ refl)

pub returns-in-Some-clause-front : goal.returns-in-Some-clause-front
returns-in-Some-clause-front c = λ site network order stands.
    let comes = sym (c.in_ok-host.ensures network (sym stands.now) (c.deref.ensures.value ∙ stands.packets)) ∙ c.in-Some.is in
    subst (λ (r : Ran). OnErr c.act.result (GrowsByFront c.args.seen.now.items c.act.new.seen.items (seen_of r)))
    (sym (means (act_of c.args.event.now) network (c.in-Some.host, c.in-Some.deed) comes).happens) (c.act.ensures.front network stands)
