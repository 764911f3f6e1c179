use Rattle.std.proofs.Common.{◌≡◌, inl, inr, ◌∷◌, [], Option, Err, refl, sym, ap, subst}
use Rattle.nqs_types.specs.declared.ids.HostId.{HostId}
use Rattle.nqs_outside.proofs.Told.{extends_same}
use Rattle.nqs_outside.specs.Streams.{fed, sunk}
use Rattle.nqs_clients.specs.declared.status.NqsStatus.TheVariants.{BadWords}
use Rattle.nqs_cli.specs.Forms.{says}
use Rattle.nqs_cli.specs.Parts.{names_of}
use Rattle.nqs_cli.specs.Runs.{RunsAt, no_parts, behind, host_named, seen}
use Rattle.nqs_cli.proofs.Using.{uses_none, answered_then}
use Rattle.nqs_cli.proofs.Wanting.{wanting, runs_since}
use Rattle.nqs_cli.proofs.dispatch.run_in.Goals as goal

pub returns-in-Err : goal.returns-in-Err
returns-in-Err g c =
    let hands = c.in-Err.ensures.hands in
    uses_none _ _ _ hands.none hands.back hands.later
    (inl (wanting _ _ c.in-Err.end _ c.status_of_end.ensures (λ is. hands.failed (ap Err is)), refl, ((refl, refl), (refl, refl, refl))))

pub returns-in_default : goal.returns-in_default
returns-in_default g c =
    let hands = c.in-Ok.ensures.hands in
    let names = c.as_slice-names.result.now in
    let same : names ≡ c.in-Ok.site = c.as_slice-names.ensures in
    let o = says c.args.order in
    let e = seen g.M.D.Disk.tells (g.M.Machine.told c.args.machine.now) (g.M.Machine.told c.site.new.self)
    (fed g.S.Source.left g.S.Source.faults c.args.input.now c.args.input.now)
    (sunk g.K.Sink.taken g.K.Sink.faults g.K.Sink.stalls c.args.out.now c.args.out.now) in
    record {
      parts = (
        behind (names_of o.dir names) no_parts,
        extends_same _ _ _ _ (ap (λ n. names_of o.dir n ∷ []) (sym same)) hands.lent,
        hands.back,
        inr (
          names,
          no_parts,
          refl,
          subst (λ (h : Option HostId). RunsAt e o.dir names h o.form no_parts BadWords) c.in_default.ensures.host
              (refl, refl, ((refl, refl), (refl, refl, refl))),
        ),
      );
      later = hands.later;
    }

pub returns : goal.returns
returns g c =
    let hands = c.in-Ok.ensures.hands in
    let names = c.as_slice-names.result.now in
    let same : names ≡ c.in-Ok.site = c.as_slice-names.ensures in
    let o = says c.args.order in
    let e = seen g.M.D.Disk.tells (g.M.Machine.told c.site.new.self) (g.M.Machine.told c.run_here.new.machine)
    (fed g.S.Source.left g.S.Source.faults c.args.input.now c.run_here.new.input)
    (sunk g.K.Sink.taken g.K.Sink.faults g.K.Sink.stalls c.args.out.now c.run_here.new.out) in
    answered_then (g.M.Machine.told c.args.machine.now) (g.M.Machine.told c.site.new.self) (g.M.Machine.told c.run_here.new.machine)
    (names_of o.dir names) _ _ (extends_same _ _ _ _ (ap (λ n. names_of o.dir n ∷ []) (sym same)) hands.lent) hands.back hands.later
    c.run_here.ensures
    (λ parts did. inr (
      names,
      parts,
      refl,
      runs_since (g.M.Machine.told c.args.machine.now).faults e hands.later o.dir names (host_named names o.host) o.form parts c.run_here.result
          (subst (λ (h : Option HostId). RunsAt e o.dir names h o.form parts c.run_here.result) c.in-Some.ensures.host did),
    ))
