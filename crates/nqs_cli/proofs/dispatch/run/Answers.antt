use Rattle.std.proofs.Common.{inl, inr, Option, refl, sym, subst, arith}
use Rattle.nqs_outside.proofs.Told.{extends_none}
use Rattle.nqs_outside.specs.Streams.{fed, sunk}
use Rattle.nqs_clients.specs.declared.status.NqsStatus.TheVariants.{BadWords}
use Rattle.nqs_cli.specs.Forms.{Ordered}
use Rattle.nqs_cli.specs.Runs.{RunsWords, no_parts, seen}
use Rattle.nqs_cli.proofs.Using.{uses_none}
use Rattle.nqs_cli.proofs.dispatch.run.Goals as goal

pub returns-in-Err-BadWords : goal.returns-in-Err-BadWords
returns-in-Err-BadWords g c =
    let told = g.M.Machine.told c.args.machine.now in
    let e = seen g.M.D.Disk.tells told told (fed g.S.Source.left g.S.Source.faults c.args.input.now c.args.input.now)
    (sunk g.K.Sink.taken g.K.Sink.faults g.K.Sink.stalls c.args.out.now c.args.out.now) in
    let none = rw c.in-Err-BadWords.field-0-is at c.in-Err-BadWords.ensures in
    record {
      parts = uses_none told told _ (extends_none _) (extends_none _) (omega arith)
          (inl (subst (λ (o : Option Ordered). RunsWords e o no_parts BadWords) (sym none) (refl, refl, ((refl, refl), (refl, refl, refl)))));
    }

pub returns-in-Err-Memory : goal.returns-in-Err-Memory
returns-in-Err-Memory g c =
    let told = g.M.Machine.told c.args.machine.now in
    record { parts = uses_none told told _ (extends_none _) (extends_none _) (omega arith) (inr (record {}, refl, ((refl, refl), (refl, refl, refl)))) }
