use Rattle.std.proofs.Common.{inl, inr, Option, map, string_bytes, refl, subst, arith}
use Rattle.nqs_outside.proofs.Told.{extends_none}
use Rattle.nqs_outside.specs.Streams.{fed, sunk}
use Rattle.nqs_clients.specs.declared.status.NqsStatus.TheVariants.{BadWords}
use Rattle.nqs_cli.specs.Forms.{Words}
use Rattle.nqs_cli.specs.Callers.{RunsAsked}
use Rattle.nqs_cli.specs.Runs.{Runs, no_parts, seen}
use Rattle.nqs_cli.proofs.Using.{uses_none, uses_as}
use Rattle.nqs_cli.proofs.caller.run_as.Goals as goal

pub returns-in-Ok-None : goal.returns-in-Ok-None
returns-in-Ok-None g c =
    let told = g.M.Machine.told c.args.machine.now in
    let e = seen g.M.D.Disk.tells told told (fed g.S.Source.left g.S.Source.faults c.args.input.now c.args.input.now)
    (sunk g.K.Sink.taken g.K.Sink.faults g.K.Sink.stalls c.args.out.now c.args.out.now) in
    let none = rw c.in-Ok-None.field-0-is at c.in-Ok-None.ensures in
    uses_none told told _ (extends_none _) (extends_none _) (omega arith)
    (inl (subst (λ (asked : Option Words). RunsAsked e asked no_parts BadWords) none (refl, refl, ((refl, refl), (refl, refl, refl)))))

pub returns-in-Err : goal.returns-in-Err
returns-in-Err g c =
    let told = g.M.Machine.told c.args.machine.now in
    uses_none told told _ (extends_none _) (extends_none _) (omega arith) (inr (record {}, refl, ((refl, refl), (refl, refl, refl))))

pub returns-in-Ok-Some : goal.returns-in-Ok-Some
returns-in-Ok-Some g c =
    let e = seen g.M.D.Disk.tells (g.M.Machine.told c.args.machine.now) (g.M.Machine.told c.run.new.machine)
    (fed g.S.Source.left g.S.Source.faults c.args.input.now c.run.new.input)
    (sunk g.K.Sink.taken g.K.Sink.faults g.K.Sink.stalls c.args.out.now c.run.new.out) in
    let some = rw c.in-Ok-Some.field-0-is at c.in-Ok-Some.ensures in
    uses_as _ _ _ _
    (λ parts did. inl (subst (λ (asked : Option Words). RunsAsked e asked parts c.run.result) some
    (subst (λ typed. Runs e (map (λ s. string_bytes s) typed) parts c.run.result) c.deref.ensures.value did)))
    c.run.ensures.parts
