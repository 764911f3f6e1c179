use Rattle.std.proofs.Common.{◌∙◌, [], ◌∷◌, Ok, Err}
use Rattle.std.specs.List.{filter_map}
use Rattle.std.proofs.lemmas.Result.{err_from_is_err_and}
use Rattle.nqs_types.specs.declared.change.Change.TheVariants.{Boot}
use Rattle.nqs_types.specs.declared.ids.HostId.{HostId}
use Rattle.nqs_types.specs.declared.world.Seen.TheVariants as seen
use Rattle.nqs_rules.specs.Notes.{ByBoot}
use Rattle.nqs_rules.specs.World.{Host, Ran, World as Network, makes_change, boot_output, all_starts}
use Rattle.nqs_disk.specs.MemDisk as mem
use Rattle.nqs_store.specs.Disks.{histories_of}
use Rattle.nqs_net.proofs.Following.{same_on, starts_then}
use Rattle.nqs_net.proofs.Fronts.{more_to_run, run_before}
use Rattle.nqs_net.proofs.Turning.{turn_after}
use Rattle.nqs_net.proofs.host.boot_down.Goals as goal

pub boot_step-requires : goal.boot_step-requires
boot_step-requires c = c.requires

-- the boot, before the starts
abbrev booted : HostId → Host → Network → Ran
booted me host w = makes_change me host ByBoot Boot (seen.Boot me ∷ []) (filter_map boot_output host.state.rows) w

pub returns-in_err-booted : goal.returns-in_err-booted
returns-in_err-booted c =
    let p = err_from_is_err_and c.from_residual.result c.from_residual.ensures.1 in
    let turn = c.args.turn.now in
    record {
      same = c.in_err-booted.ensures.same;
      turn = λ w host faces is now.
          rw p.1 (more_to_run turn.seen.now.items c.boot_step.new.turn.seen.now.items (booted turn.me host w) (all_starts turn.me)
          (c.in_err-booted.ensures.turn w host faces is));
    }

pub returns-in_err-begun : goal.returns-in_err-begun
returns-in_err-begun c =
    let p = err_from_is_err_and c.from_residual-in_err-begun.result c.from_residual-in_err-begun.ensures.1 in
    let turn = c.args.turn.now in
    let mid = c.boot_step.new.turn in
    let after = c.start_all.new.turn in
    record {
      same = same_on turn mid after c.in_ok-booted.ensures.same c.in_err-begun.ensures.same;
      turn = λ w host faces is now.
          let did = booted turn.me host w in
          let one = c.in_ok-booted.ensures.turn w host faces is in
          let two = starts_then turn mid after c.in_ok-booted.booted (Err c.in_err-begun.field-0.0) c.in_ok-booted.ensures.same c.in_err-begun.ensures.turn
          did.world (histories_of mem.history_of c.args.down.disks.value) one.at (one.rest.now ∙ now) in
          rw p.1 (run_before turn.seen.now.items after.seen.now.items did (all_starts turn.me) mid.seen.now.items one.seen two);
    }

pub returns-clause-same : goal.returns-clause-same
returns-clause-same c = same_on c.args.turn.now c.boot_step.new.turn c.start_all.new.turn c.in_ok-booted.ensures.same c.in_ok-begun.ensures.same

pub returns-clause-turn : goal.returns-clause-turn
returns-clause-turn c = λ w host faces is now.
    let turn = c.args.turn.now in
    let did = booted turn.me host w in
    let one = c.in_ok-booted.ensures.turn w host faces is in
    let two = starts_then turn c.boot_step.new.turn c.start_all.new.turn c.in_ok-booted.booted (Ok c.in_ok-begun.begun) c.in_ok-booted.ensures.same
    c.in_ok-begun.ensures.turn did.world (histories_of mem.history_of c.args.down.disks.value) one.at (one.rest.now ∙ now) in
    turn_after turn.me _ _ turn.tear turn.tear _ _ _ _ _ w did (all_starts turn.me) one two
