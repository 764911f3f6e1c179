use Rattle.std.proofs.Common.{◌∷◌, [], inl, inr, Err, None, Some, refl, ap, subst}
use Rattle.std.specs.declared.option.Option.{Option}
use Rattle.nqs_types.specs.declared.world.Which.{Which}
use Rattle.nqs_outside.specs.Streams.{fed, sunk}
use Rattle.nqs_outside.specs.Told.{Extends}
use Rattle.nqs_cli.specs.Parts.{look_of}
use Rattle.nqs_cli.specs.Runs.{no_parts, behind, place_at, seen}
use Rattle.nqs_cli.proofs.Using.{uses_none, answered_then}
use Rattle.nqs_cli.proofs.Wanting.{wanting, does_since}
use Rattle.nqs_cli.proofs.dispatch.run_looking.Goals as goal

pub returns-in-Err : goal.returns-in-Err
returns-in-Err g c =
    let hands = c.in-Err.ensures in
    uses_none _ _ _ hands.none hands.back hands.later
    (inl (wanting _ _ c.in-Err.end _ c.status_of_end.ensures (λ is. hands.failed (ap Err is)), refl, ((refl, refl), (refl, refl, refl))))

pub returns-in-Ok-Some : goal.returns-in-Ok-Some
returns-in-Ok-Some g c =
    let at = place_at c.args.station.now in
    let hands = c.in-Ok-Some.ensures in
    record {
      parts = (
        behind (look_of at.dir at.me (Some c.in-Ok-Some.field-0-0)) no_parts,
        subst
            (λ (missing : Option Which). Extends (g.M.Machine.told c.args.machine.now).lent (g.M.Machine.told c.missing_disk.new.self).lent
            (look_of at.dir at.me missing ∷ []))
            c.in-Ok-Some.field-0-is hands.lent,
        hands.back,
        inr (Some c.in-Ok-Some.field-0-0, no_parts, refl, (refl, refl, ((refl, refl), (refl, refl, refl)))),
      );
      later = hands.later;
    }

pub returns-in-Ok-None : goal.returns-in-Ok-None
returns-in-Ok-None g c =
    let at = place_at c.args.station.now in
    let hands = c.in-Ok-None.ensures in
    let e = seen g.M.D.Disk.tells (g.M.Machine.told c.missing_disk.new.self) (g.M.Machine.told c.run_at.new.machine)
    (fed g.S.Source.left g.S.Source.faults c.args.input.now c.run_at.new.input)
    (sunk g.K.Sink.taken g.K.Sink.faults g.K.Sink.stalls c.args.out.now c.run_at.new.out) in
    answered_then _ (g.M.Machine.told c.missing_disk.new.self) _ (look_of at.dir at.me None) _ _
    (subst
    (λ (missing : Option Which). Extends (g.M.Machine.told c.args.machine.now).lent (g.M.Machine.told c.missing_disk.new.self).lent
    (look_of at.dir at.me missing ∷ []))
    c.in-Ok-None.field-0-is hands.lent)
    hands.back hands.later c.run_at.ensures
    (λ parts did. inr (
      None,
      parts,
      refl,
      does_since (g.M.Machine.told c.args.machine.now).faults e hands.later at c.args.form parts c.run_at.result did,
    ))
