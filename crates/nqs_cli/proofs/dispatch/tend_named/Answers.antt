use Rattle.std.proofs.Common.{◌≡◌, ◌⊎◌, inl, Option, refl, subst, arith}
use Rattle.nqs_types.specs.declared.ids.RequestId.{RequestId}
use Rattle.nqs_outside.proofs.Told.{extends_none}
use Rattle.nqs_clients.specs.declared.status.NqsStatus.TheVariants.{BadWords}
use Rattle.nqs_cli.specs.Runs.{Tends, Uses, IsWanting, no_parts, place_at}
use Rattle.nqs_cli.proofs.Using.{uses_none}
use Rattle.nqs_cli.proofs.dispatch.tend_named.Goals as goal

pub returns-in-None : goal.returns-in-None
returns-in-None g c =
    let at = place_at c.args.station.now in
    uses_none _ _ _ (extends_none _) (extends_none _) (omega arith)
    (inl (subst (λ (r : Option RequestId). Tends at r c.args.start no_parts BadWords) c.in-None.ensures.request (refl, refl)))

pub returns-in-Some : goal.returns-in-Some
returns-in-Some g c =
    let was = g.M.Machine.told c.args.machine.now in
    let now = g.M.Machine.told c.tend.new.machine in
    subst
    (λ (r : Option RequestId). Uses was now (λ parts. Tends (place_at c.args.station.now) r c.args.start parts c.tend.result
    ⊎ (IsWanting was.faults now.faults c.tend.result × (parts ≡ no_parts))))
    c.in-Some.ensures.request c.tend.ensures
