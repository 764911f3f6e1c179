use Rattle.std.proofs.Common.{◌≡◌, ◌∙◌, ◌++◌, [], ◌∷◌, false, length, Some, refl, sym, ap, subst}
use Rattle.std.proofs.lemmas.List.{append_assoc}
use Rattle.std.proofs.lemmas.Result.{err_from_is_err_and}
use Rattle.nqs_types.specs.declared.change.Change.TheVariants.{Boot}
use Rattle.nqs_types.specs.declared.world.Seen.TheVariants as seen
use Rattle.std.specs.List.{filter_map}
use Rattle.nqs_rules.specs.Notes.{ByBoot}
use Rattle.nqs_rules.specs.World.{boot_output, makes_change}
use Rattle.nqs_disk.specs.MemDisk as mem
use Rattle.nqs_store.specs.Disks.{disk_at, histories_of}
use Rattle.nqs_store.specs.Sound.{IsSoundHost}
use Rattle.nqs_node.specs.Nodes.{history_of, content_of, is_stopped}
use Rattle.nqs_laws.specs.Outputs.{sent_in, seen_from}
use Rattle.nqs_net.specs.Lists.{GrowsByFront}
use Rattle.nqs_net.specs.Followed.{GoOn, Follows}
use Rattle.nqs_net.specs.Worlds.{IsDown, active_in}
use Rattle.nqs_net.proofs.Fronts.{none_shown, shown_as, shown_before}
use Rattle.nqs_net.proofs.Following.{goes, broke_off, follow_stopped, turn_follows, turn_packets, same_turn}
use Rattle.nqs_net.proofs.Coming.{uncalled_quiet}
use Rattle.nqs_net.proofs.Hosting.{boot_turn, boot_seen, boot_cut}
use Rattle.nqs_net.proofs.host.boot_step.Goals as goal

pub boot-requires : goal.boot-requires
boot-requires c = record {
  quiet = λ yes which. uncalled_quiet _ (subst (λ d. (histories_of mem.history_of d which).calls ≡ []) (sym c.into_inner.ensures)
      (c.args.down.rests which));
}

pub returns-in_err-push-in-Ok : goal.returns-in_err-push-in-Ok
returns-in_err-push-in-Ok c =
    let p = err_from_is_err_and c.from_residual-in_err-push-in-Ok.result c.from_residual-in_err-push-in-Ok.ensures.1 in
    record {
      same = record { me = refl; tear = refl; now = refl; packets = refl; seen = refl };
      turn = λ w host faces is. rw p.1 (none_shown c.args.turn.now.seen.now.items c.push.new.self.items _ c.in_err-push-in-Ok.ensures.items);
    }

pub returns-in_err-emit-in-Ok-clause-same : goal.returns-in_err-emit-in-Ok-clause-same
returns-in_err-emit-in-Ok-clause-same c = let same = c.in_err-emit-in-Ok.ensures.same in
    record { me = same.me; tear = same.tear; now = same.now; packets = same.packets; seen = same.seen }

pub returns-in-Ok-clause-same : goal.returns-in-Ok-clause-same
returns-in-Ok-clause-same c = let same = c.in_ok-emit-in-Ok.ensures.same in
    record { me = same.me; tear = same.tear; now = same.now; packets = same.packets; seen = same.seen }

pub returns-in_err-emit-in-Ok-clause-turn : goal.returns-in_err-emit-in-Ok-clause-turn
returns-in_err-emit-in-Ok-clause-turn c = λ w host faces is.
    let p = err_from_is_err_and c.from_residual-in_err-emit-in-Ok.result c.from_residual-in_err-emit-in-Ok.ensures.1 in
    let turn = c.args.turn.now in
    let me = turn.me in
    let down = subst (λ d. IsDown d host) (sym c.into_inner.ensures) is in
    let outs = filter_map boot_output host.state.rows in
    let packets = turn.packets.now.items in
    let before = turn.seen.now.items in
    let mid = c.push.new.self.items in
    let after = c.emit.new.turn.seen.now.items in
    let out = c.in-Ok.ensures.outputs refl host.state down.tells ∙ ap (λ l. l ++ outs) c.new-out.ensures.items in
    let saw = boot_seen me w host turn.tear packets faces c.into_inner.result down c.in-Ok.node c.in-Ok.ensures.booted.sound
    (c.in-Ok.ensures.booted.told refl host.state down.tells) (c.in-Ok.ensures.booted.made refl (active_in host) down.active)
    (c.in-Ok.ensures.booted.active refl (active_in host) down.active)
    (c.in-Ok.ensures.booted.any_moment refl host.state down.tells (active_in host) down.active)
    (c.in-Ok.ensures.booted.fuse refl) in
    let front = subst (λ l. GrowsByFront mid after (seen_from me (length packets) l)) out c.in_err-emit-in-Ok.ensures.front in
    rw p.1 (shown_as before after _ _ saw (shown_before before mid after (seen.Boot me ∷ [])
    (seen_from me (length packets) outs) c.in_ok-push-in-Ok.ensures.items front))

pub invariant_of-result : goal.invariant_of-result
invariant_of-result c = record {
  sound = subst (λ n. IsSoundHost (content_of n)) (sym c.in_ok-node-in-Ok.ensures.ok) c.in-Ok.ensures.booted.sound;
  running = subst (λ n. is_stopped n ≡ false) (sym c.in_ok-node-in-Ok.ensures.ok) c.in-Ok.ensures.booted.running;
}

pub returns-in-Ok-clause-turn : goal.returns-in-Ok-clause-turn
returns-in-Ok-clause-turn c = λ w host faces is.
    let turn = c.args.turn.now in
    let down = subst (λ d. IsDown d host) (sym c.into_inner.ensures) is in
    let outs = filter_map boot_output host.state.rows in
    let packets = turn.packets.now.items in
    let before = turn.seen.now.items in
    let out = c.in-Ok.ensures.outputs refl host.state down.tells ∙ ap (λ l. l ++ outs) c.new-out.ensures.items in
    let boxed = c.in_ok-node-in-Ok.ensures.ok in
    let went = goes (active_in host) (histories_of mem.history_of c.into_inner.result) (history_of c.in-Ok.node) (Some Boot) host.state
    (c.in-Ok.ensures.booted.any_moment refl host.state down.tells (active_in host) down.active) in
    let follows = subst (λ n. GoOn (histories_of mem.history_of c.into_inner.result) (history_of n)) (sym boxed) went in
    turn_follows turn.me turn.tear _ before _ w turn.tear (histories_of mem.history_of c.args.down.disks.value) _ _
    (subst (λ d. GoOn (histories_of mem.history_of d) (history_of c.in_ok-node-in-Ok.node.value)) c.into_inner.ensures follows)
    (boot_turn turn.me w host turn.tear packets faces c.into_inner.result down c.in-Ok.node _ c.in_ok-node-in-Ok.ensures.ok
    c.in-Ok.ensures.booted.sound
    (c.in-Ok.ensures.booted.told refl host.state down.tells) (c.in-Ok.ensures.booted.made refl (active_in host) down.active)
    (c.in-Ok.ensures.booted.active refl (active_in host) down.active)
    (c.in-Ok.ensures.booted.any_moment refl host.state down.tells (active_in host) down.active)
    (c.in-Ok.ensures.booted.fuse refl)
    _ before _ (c.in_ok-emit-in-Ok.ensures.packets ∙ ap (λ l. packets ++ sent_in l) out)
    (c.in_ok-emit-in-Ok.ensures.seen ∙ ap (λ l. l ++ seen_from turn.me (length packets) c.boot.new.out.items) c.in_ok-push-in-Ok.ensures.items
    ∙ append_assoc before (seen.Boot turn.me ∷ []) (seen_from turn.me (length packets) c.boot.new.out.items)
    ∙ ap (λ l. before ++ (seen.Boot turn.me ∷ seen_from turn.me (length packets) l)) out))

pub returns-in_err-node-in-Ok : goal.returns-in_err-node-in-Ok
returns-in_err-node-in-Ok c =
    let p = err_from_is_err_and c.from_residual.result c.from_residual.ensures.1 in
    let seen = c.args.turn.now.seen.now.items in
    record { same = same_turn c.args.turn.now; turn = λ w host faces is. rw p.1 (none_shown seen seen _ refl) }

pub returns-in_err-slot-in-Err-Disk-default : goal.returns-in_err-slot-in-Err-Disk-default
returns-in_err-slot-in-Err-Disk-default c =
    let p = err_from_is_err_and c.from_residual-in_err-slot-in-Err-Disk-default.result c.from_residual-in_err-slot-in-Err-Disk-default.ensures.1 in
    let stop = c.in_err-slot-in-Err-Disk-default.ensures in
    record {
      same = stop.same;
      turn = λ w host faces is. rw p.1 (none_shown c.args.turn.now.seen.now.items c.stop.new.turn.seen.now.items _ stop.unseen);
    }

pub returns-in-Err-Disk-default-clause-same : goal.returns-in-Err-Disk-default-clause-same
returns-in-Err-Disk-default-clause-same c = c.in_ok-slot-in-Err-Disk-default.ensures.same

pub returns-in-Err-Disk-default-clause-turn : goal.returns-in-Err-Disk-default-clause-turn
returns-in-Err-Disk-default-clause-turn c = λ w host faces is.
    let turn = c.args.turn.now in
    let down = subst (λ d. IsDown d host) (sym c.into_inner.ensures) is in
    let broke = c.in-Err-Disk-default in
    let stop = c.in_ok-slot-in-Err-Disk-default in
    let went = broke_off (active_in host) (histories_of mem.history_of c.into_inner.result) (histories_of mem.history_of broke.disks) (Some Boot)
    (broke.ensures.unbooted.broken_off refl (active_in host) down.active) in
    let follows = follow_stopped turn.tear (histories_of mem.history_of c.into_inner.result)
    (histories_of mem.history_of broke.disks) stop.slot went stop.ensures.stopped in
    let packets = turn.packets.now.items in
    let before = turn.seen.now.items in
    let old = histories_of mem.history_of c.args.down.disks.value in
    let did = makes_change turn.me host ByBoot Boot (seen.Boot turn.me ∷ []) (filter_map boot_output host.state.rows) w in
    turn_packets turn c.stop.new.turn old w did stop.slot stop.ensures.packets
    (turn_follows turn.me turn.tear packets before _ w turn.tear old stop.slot _
    (subst (λ d. Follows turn.tear (histories_of mem.history_of d) stop.slot) c.into_inner.ensures follows)
    (boot_cut turn.me w host turn.tear packets faces c.into_inner.result down
    (histories_of mem.history_of broke.disks) stop.slot broke.field-0-0-0 (mem.is_starved (disk_at broke.field-0-0-0 broke.disks)) before _
    stop.ensures.seen stop.ensures.stopped (stop.ensures.fed broke.field-0-0-0)
    (broke.ensures.unbooted.cut refl host.state down.tells (active_in host) down.active broke.field-0-0-0 broke.field-0-0-is)))

pub unreachable-unreachable : goal.unreachable-unreachable
unreachable-unreachable c = c.unreachable.type_inv

pub unreachable-requires : goal.unreachable-requires
unreachable-requires c =
    let (host, is) = c.requires in
    let down = subst (λ d. IsDown d host) (sym c.into_inner.ensures) is in
    let broke = c.in-Err-NotNqs-default in
    broke.ensures.unbooted.never refl host.state down.tells broke.field-0-0-0 broke.field-0-0-1 broke.field-0-0-is

pub returns-in-Err-Memory-default : goal.returns-in-Err-Memory-default
returns-in-Err-Memory-default c = let seen = c.args.turn.now.seen.now.items in
    record { same = same_turn c.args.turn.now; turn = λ w host faces is. none_shown seen seen _ refl }
