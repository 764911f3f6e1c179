use Rattle.std.proofs.Common.{◌≡◌, ◌∙◌, ◌++◌, refl, sym, ap, subst, arith}
use Rattle.std.specs.List.{insert}
use Rattle.std.proofs.lemmas.List.{append-nil}
use Rattle.std.proofs.lemmas.Result.{err_from_is_err_and}
use Rattle.nqs_rules.specs.World.{seen_of}
use Rattle.nqs_net.specs.Deeds.{done, done_by}
use Rattle.nqs_net.specs.Lists.{GrowsByFront}
use Rattle.nqs_net.specs.Worlds.{IsWorld}
use Rattle.nqs_net.proofs.Placing.{tears_as_long, no_host, sane_at, boots_at, acted_world, acted_seen, acted_follow, acted_front}
use Rattle.nqs_net.proofs.Fronts.{all_shown, left_as}
use Rattle.nqs_net.proofs.Following.{follow_selves}
use Rattle.nqs_net.proofs.world.World.act.Goals as goal

pub returns-then-len-place-clause-world : goal.returns-then-len-place-clause-world
returns-then-len-place-clause-world c = λ network stands. let world = c.args.self.now in
    subst (λ o. IsWorld world (done_by o c.args.deed.now c.args.host network).world)
    (sym (no_host world.slots.items world.tears.items network.hosts c.args.host.0 stands.hosts (omega (arith, world.slots.ok.0)))) stands

pub returns-then-len-place-clause-seen : goal.returns-then-len-place-clause-seen
returns-then-len-place-clause-seen c = λ network stands. let world = c.args.self.now in
    subst (λ o. c.args.seen.now.items ≡ c.args.seen.now.items ++ seen_of (done_by o c.args.deed.now c.args.host network))
    (sym (no_host world.slots.items world.tears.items network.hosts c.args.host.0 stands.hosts (omega (arith, world.slots.ok.0))))
    (sym (append-nil c.args.seen.now.items))

pub returns-then-len-place-clause-follow : goal.returns-then-len-place-clause-follow
returns-then-len-place-clause-follow c = λ network stands. let world = c.args.self.now in
    follow_selves world.tears.items world.slots.items (tears_as_long world.slots.items world.tears.items network.hosts stands.hosts)

pub index-tear-requires : goal.index-tear-requires
index-tear-requires c = let world = c.args.self.now in
    omega (
      arith,
      world.slots.ok.0,
      world.tears.ok.0,
      tears_as_long world.slots.items world.tears.items c.requires.ready.network.hosts
          c.requires.ready.stands.hosts,
    )

pub do_at-requires : goal.do_at-requires
do_at-requires c = let world = c.args.self.now in record {
  sane = sane_at world c.args.deed.now c.args.host.0 c.remove-slot.result c.index-tear.result.now c.requires.ready
      (omega (arith, world.slots.ok.0)) c.remove-slot.ensures.value c.index-tear.ensures;
  boots = boots_at world c.args.deed.now c.args.host.0 c.remove-slot.result c.index-tear.result.now c.requires.ready
      (omega (arith, world.slots.ok.0)) c.remove-slot.ensures.value c.index-tear.ensures;
}

pub returns-clause-world : goal.returns-clause-world
returns-clause-world c = λ network stands. let world = c.args.self.now in
    acted_world world c.args.host c.args.deed.now c.remove-slot.result c.in_ok-slot.slot c.index-tear.result.now c.do_at.new.turn.packets.now.items
    c.args.seen.now.items c.do_at.new.turn.seen.now.items (omega (arith, world.slots.ok.0))
    c.remove-slot.ensures.value c.index-tear.ensures c.in_ok-slot.ensures.turn network stands _ refl refl refl refl
    (c.in_ok-insert.ensures.items ∙ ap (λ l. insert l c.args.host.0 c.in_ok-slot.slot) c.remove-slot.ensures.items)

pub returns-clause-seen : goal.returns-clause-seen
returns-clause-seen c = λ network stands. let world = c.args.self.now in
    let saw = acted_seen world c.args.host c.args.deed.now c.remove-slot.result c.in_ok-slot.slot c.index-tear.result.now c.do_at.new.turn.packets.now.items
    c.args.seen.now.items c.do_at.new.turn.seen.now.items (omega (arith, world.slots.ok.0))
    c.remove-slot.ensures.value c.index-tear.ensures c.in_ok-slot.ensures.turn network stands in
    left_as (λ l. l ≡ c.args.seen.now.items ++ seen_of (done c.args.deed.now c.args.host network)) c.do_at.new.turn.seen.now.items _ (grind arith) saw

pub returns-clause-follow : goal.returns-clause-follow
returns-clause-follow c = λ network stands. let world = c.args.self.now in
    acted_follow world c.args.host c.args.deed.now c.remove-slot.result c.in_ok-slot.slot c.index-tear.result.now c.do_at.new.turn.packets.now.items
    c.args.seen.now.items c.do_at.new.turn.seen.now.items (omega (arith, world.slots.ok.0))
    c.remove-slot.ensures.value c.index-tear.ensures c.in_ok-slot.ensures.turn network stands _
    (c.in_ok-insert.ensures.items ∙ ap (λ l. insert l c.args.host.0 c.in_ok-slot.slot) c.remove-slot.ensures.items)

pub returns-in_err-slot-clause-front : goal.returns-in_err-slot-clause-front
returns-in_err-slot-clause-front c = λ network stands. let world = c.args.self.now in
    let p = err_from_is_err_and c.from_residual.result c.from_residual.ensures.1 in
    let before = c.args.seen.now.items in
    let after = c.do_at.new.turn.seen.now.items in
    let front = acted_front world c.args.host c.args.deed.now c.remove-slot.result c.index-tear.result.now before after
    (omega (arith, world.slots.ok.0)) c.remove-slot.ensures.value c.index-tear.ensures c.in_err-slot.ensures.turn network stands in
    rw p.1 (left_as (λ l. GrowsByFront before l (seen_of (done c.args.deed.now c.args.host network))) after _ (grind arith) front)

pub returns-in_err-insert-clause-front : goal.returns-in_err-insert-clause-front
returns-in_err-insert-clause-front c = λ network stands. let world = c.args.self.now in
    let p = err_from_is_err_and c.from_residual-in_err-insert.result c.from_residual-in_err-insert.ensures.1 in
    let before = c.args.seen.now.items in
    let after = c.do_at.new.turn.seen.now.items in
    let saw = acted_seen world c.args.host c.args.deed.now c.remove-slot.result c.in_ok-slot.slot c.index-tear.result.now c.do_at.new.turn.packets.now.items
    before after (omega (arith, world.slots.ok.0))
    c.remove-slot.ensures.value c.index-tear.ensures c.in_ok-slot.ensures.turn network stands in
    rw p.1 (left_as (λ l. GrowsByFront before l (seen_of (done c.args.deed.now c.args.host network))) after _ (grind arith) (all_shown before after _ saw))
